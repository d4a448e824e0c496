-- "Calls and refusal numbers": for each call its tests in order, its answer, and what every lent byte holds afterwards. A refused call
-- leaves every byte as it was.
use Rattle.std.specs.Prelude.{ℤ, ℕ, ◌+◌, ◌-◌, ◌^◌, Bool, true, false, not, List, [], ◌∷◌, ◌++◌, leb, ltb, eqb, length, take, drop, get_or, Result, Ok, Err, ⊤}
use Rattle.octets.specs.Bytes.{le, be, put}
use Rattle.keys.specs.Choice.{pick, both}
use Rattle.keys.specs.Keys.{common, same_list}
use Rattle.paper.specs.Lists.{all, sum, less, differ}
use Rattle.paper.specs.Page.{slot_of, suffix_of, value_at, Frame, frame_of, numbers_of}
use Rattle.paper.specs.Space.{need, free, used, space_of, begin_bytes}
use Rattle.paper.specs.Verdicts.{within, slot_payload, header_rules, inside, fit_of, layout_of}
use Rattle.paper.specs.Listing.{Entry, listing, keys}
use Rattle.paper.specs.Refusals.{Check, check, judge}
use Rattle.paper.specs.Edits.{Begin, begun, inserted, value_set, outgrows, key_changed, run_copied}
use Rattle.paper.specs.Searches.{probe_suffix, slot_order, sign_of, bound, find_at, scan, child_scan}
use Rattle.paper.specs.declared.page.Slot.{Slot}
use Rattle.paper.specs.declared.refusal.Refusal.TheVariants.{PageLength, Width, KeyLength, HeaderRules, NotFit, FenceOrder, ValueRange, Prefix, OutsideFences, SlotNumber, Present, Neighbours, NoRoom, Payload, BufferLength, ShortKey, NotFound, OtherValue}
use Rattle.std.specs.declared.cmp.Ordering.{Ordering}
use Rattle.paper.specs.declared.refusal.Refusal.{Refusal}
use Rattle.paper.specs.declared.answers.Space.{Space}
use Rattle.paper.specs.declared.answers.Child.{Child}
use Rattle.paper.specs.declared.answers.EntryRead.{EntryRead}
use Rattle.paper.specs.declared.answers.Forecast.{Forecast}
use Rattle.paper.specs.declared.answers.Found.{Found}

-- ---- the tests of the table, each under its own number; p is a page, w a width, k a key, v a value, i a slot number
-- 1 "page not 16,384 bytes"
abbrev pub page_length : List ℕ → Check
page_length p = check (eqb (length p) 16384) PageLength

-- 2 "width not 0, 1, 8"
unfoldable pub is_width : ℕ → Bool
is_width w = pick (eqb w 0) true (pick (eqb w 1) true (eqb w 8))

abbrev pub width_known : ℕ → Check
width_known w = check (is_width w) Width

-- 3 "key argument above 65,535 bytes"
abbrev pub key_length : List ℕ → Check
key_length k = check (leb (length k) 65535) KeyLength

-- 4 "header rules broken"
abbrev pub rules_hold : List ℕ → Check
rules_hold p = check (header_rules (frame_of p) (numbers_of p)) HeaderRules

-- 5 "page not fit"; it carries the U number
abbrev pub is_fit : ℕ → List ℕ → Check
is_fit w p = check (eqb (fit_of w p) 0) (NotFit (fit_of w p))

-- 7 "value above 255 at width 1, above 0 at width 0"; at width 8 every u64 passes
unfoldable pub fits_width : ℕ → ℕ → Bool
fits_width w v = ltb v (256 ^ w)

-- 8 "key lacks the page's prefix"
unfoldable pub has_prefix : Frame → List ℕ → Bool
has_prefix f k = same_list (take f.prefix_len k) f.prefix

abbrev pub prefix_held : List ℕ → List ℕ → Check
prefix_held p k = check (has_prefix (frame_of p) k) Prefix

-- 9 "key outside the fences"
abbrev pub inside_fences : List ℕ → List ℕ → Check
inside_fences p k = check (inside (frame_of p) k) OutsideFences

-- 10 "slot number not below count"
abbrev pub slot_there : List ℕ → ℕ → Check
slot_there p i = check (ltb i (numbers_of p).count) SlotNumber

-- 14 "a slot visited has payload outside end..16,256"
abbrev pub payload_held : ℕ → List ℕ → ℕ → Check
payload_held w p i = check (within (numbers_of p).end (slot_payload w (slot_of p i))) Payload

-- ---- begin 1, 3, 6, 13
unfoldable pub begin_checks : List ℕ → Begin → List Check
begin_checks p b =
    page_length p
    ∷ key_length b.lower
    ∷ key_length b.upper
    ∷ check (pick (eqb (length b.upper) 0) true (less b.lower b.upper)) FenceOrder
    ∷ check (leb (begin_bytes b.lower b.upper) 16256) NoRoom
    ∷ []

unfoldable pub begin_of : List ℕ → Begin → Result ⊤ Refusal
begin_of p b = judge (begin_checks p b) (Ok tt) Err

unfoldable pub begin_page : List ℕ → Begin → List ℕ
begin_page p b = judge (begin_checks p b) (begun p b) (λ r. p)

-- ---- insert 1, 2, 3, 5, 7, 8, 9, 11, 13. "Answers the slot number"
unfoldable pub insert_checks : ℕ → List ℕ → List ℕ → ℕ → List Check
insert_checks w p k v =
    page_length p
    ∷ width_known w
    ∷ key_length k
    ∷ is_fit w p
    ∷ check (fits_width w v) ValueRange
    ∷ prefix_held p k
    ∷ inside_fences p k
    ∷ check (all (differ k) (keys (listing w p))) Present
    ∷ check (leb (need w (length (probe_suffix (frame_of p) k))) (free (numbers_of p))) NoRoom
    ∷ []

unfoldable pub insert_of : ℕ → List ℕ → List ℕ → ℕ → Result ℕ Refusal
insert_of w p k v = judge (insert_checks w p k v) (Ok (scan false k (listing w p))) Err

unfoldable pub insert_page : ℕ → List ℕ → List ℕ → ℕ → List ℕ
insert_page w p k v = judge (insert_checks w p k v) (inserted w p (scan false k (listing w p)) (probe_suffix (frame_of p) k) v) (λ r. p)

-- ---- set value (key, expected, new) 1, 2, 3, 5, 7, 8, 17, 18. "Answers the old value. 7 looks at both values"
unfoldable pub stored_value : ℕ → List ℕ → List ℕ → ℕ
stored_value w p k = le w p (value_at (slot_of p (scan false k (listing w p))))

unfoldable pub set_checks : ℕ → List ℕ → List ℕ → ℕ → ℕ → List Check
set_checks w p k expected new =
    page_length p
    ∷ width_known w
    ∷ key_length k
    ∷ is_fit w p
    ∷ check (both (fits_width w expected) (fits_width w new)) ValueRange
    ∷ prefix_held p k
    ∷ check (not (all (differ k) (keys (listing w p)))) NotFound
    ∷ check (eqb (stored_value w p k) expected) (OtherValue (stored_value w p k))
    ∷ []

unfoldable pub set_of : ℕ → List ℕ → List ℕ → ℕ → ℕ → Result ℕ Refusal
set_of w p k expected new = judge (set_checks w p k expected new) (Ok (stored_value w p k)) Err

unfoldable pub set_page : ℕ → List ℕ → List ℕ → ℕ → ℕ → List ℕ
set_page w p k expected new = judge (set_checks w p k expected new) (value_set w p (scan false k (listing w p)) new) (λ r. p)

-- ---- change key 1, 2, 3, 5, 8, 9, 10, 12, 13. "The same key again is accepted"
-- 12 "key not strictly between its neighbours": those of slot i
unfoldable pub between : List (List ℕ) → ℕ → List ℕ → Bool
between ks i k =
    both (pick (eqb i 0) true (less (get_or ks (i - 1) []) k)) (pick (leb (length ks) (i + 1)) true (less k (get_or ks (i + 1) [])))

-- 13 "for a key change only its new payload"
unfoldable pub room_for_key : ℕ → List ℕ → ℕ → List ℕ → Bool
room_for_key w p i s = pick (outgrows (slot_of p i) s) (leb (length s + w) (free (numbers_of p))) true

unfoldable pub change_checks : ℕ → List ℕ → ℕ → List ℕ → List Check
change_checks w p i k =
    page_length p
    ∷ width_known w
    ∷ key_length k
    ∷ is_fit w p
    ∷ prefix_held p k
    ∷ inside_fences p k
    ∷ slot_there p i
    ∷ check (between (keys (listing w p)) i k) Neighbours
    ∷ check (room_for_key w p i (probe_suffix (frame_of p) k)) NoRoom
    ∷ []

unfoldable pub change_of : ℕ → List ℕ → ℕ → List ℕ → Result ⊤ Refusal
change_of w p i k = judge (change_checks w p i k) (Ok tt) Err

unfoldable pub change_page : ℕ → List ℕ → ℕ → List ℕ → List ℕ
change_page w p i k = judge (change_checks w p i k) (key_changed w p i (probe_suffix (frame_of p) k)) (λ r. p)

-- ---- run copy 1, 2, 5 (destination before source), 10, "then entry by entry 8, 9, then 12 for the first entry against the
-- destination's last, then 13 for the whole run": p is the destination, q the source, the run is a..a + n
abbrev pub run : ℕ → List ℕ → ℕ → ℕ → List Entry
run w q a n = take n (drop a (listing w q))

unfoldable pub entry_checks : List ℕ → List Entry → List Check
entry_checks p [] = []
entry_checks p (e ∷ es) = prefix_held p e.key ∷ inside_fences p e.key ∷ entry_checks p es

unfoldable pub above_last : List (List ℕ) → List Entry → Bool
above_last ks [] = true
above_last ks (e ∷ es) = pick (eqb (length ks) 0) true (less (get_or ks (length ks - 1) []) e.key)

-- the needs of all of them
unfoldable pub need_of_all : ℕ → List ℕ → List Entry → ℕ
need_of_all w p es = sum (λ e. need w (length (probe_suffix (frame_of p) e.key))) es

unfoldable pub run_checks : ℕ → List ℕ → List ℕ → ℕ → ℕ → List Check
run_checks w p q a n =
    page_length p
    ∷ page_length q
    ∷ width_known w
    ∷ is_fit w p
    ∷ is_fit w q
    ∷ check (leb (a + n) (numbers_of q).count) SlotNumber
    ∷ entry_checks p (run w q a n)
    ++ check (above_last (keys (listing w p)) (run w q a n)) Neighbours
    ∷ check (leb (need_of_all w p (run w q a n)) (free (numbers_of p))) NoRoom
    ∷ []

unfoldable pub run_of : ℕ → List ℕ → List ℕ → ℕ → ℕ → Result ⊤ Refusal
run_of w p q a n = judge (run_checks w p q a n) (Ok tt) Err

unfoldable pub run_page : ℕ → List ℕ → List ℕ → ℕ → ℕ → List ℕ
run_page w p q a n = judge (run_checks w p q a n) (run_copied w p (run w q a n)) (λ r. p)

-- ---- find 1, 2, 3, 4, 8, 14
abbrev pub probe_checks : ℕ → List ℕ → List ℕ → List Check
probe_checks w p k = page_length p ∷ width_known w ∷ key_length k ∷ rules_hold p ∷ []

abbrev pub find_checks : ℕ → List ℕ → List ℕ → List Check
find_checks w p k = probe_checks w p k ++ prefix_held p k ∷ []

unfoldable pub find_of : ℕ → List ℕ → List ℕ → Result Found Refusal
find_of w p k = judge (find_checks w p k) (find_at w p k (bound false w p k)) Err

-- ---- lower (u false) and upper (u true) bound 1, 2, 3, 4, 14
unfoldable pub bound_of : Bool → ℕ → List ℕ → List ℕ → Result ℕ Refusal
bound_of u w p k = judge (probe_checks w p k) (bound u w p k) Err

-- ---- compare slot with probe 1, 2, 3, 4, 10, 14
unfoldable pub compared : Result Ordering Refusal → Result ℤ Refusal
compared (Ok o) = Ok (sign_of o)
compared (Err r) = Err r

abbrev pub compare_checks : ℕ → List ℕ → ℕ → List ℕ → List Check
compare_checks w p i k = probe_checks w p k ++ slot_there p i ∷ []

unfoldable pub compare_of : ℕ → List ℕ → ℕ → List ℕ → Result ℤ Refusal
compare_of w p i k = judge (compare_checks w p i k) (compared (slot_order w p k i)) Err

-- ---- child number (width 8, any height) 1, 3, 5, 8, 9
abbrev pub child_checks : List ℕ → List ℕ → List Check
child_checks p k = page_length p ∷ key_length k ∷ is_fit 8 p ∷ prefix_held p k ∷ inside_fences p k ∷ []

unfoldable pub child_of : List ℕ → List ℕ → Result Child Refusal
child_of p k = judge (child_checks p k) (Ok (child_scan (frame_of p).lower_value k (listing 8 p))) Err

-- ---- entry 1, 2, 4, 10, 14
abbrev pub entry_tests : ℕ → List ℕ → ℕ → List Check
entry_tests w p i = page_length p ∷ width_known w ∷ rules_hold p ∷ slot_there p i ∷ payload_held w p i ∷ []

-- the answer is the slot, by which `key_at` reads the key, and the value
unfoldable pub read_entry : ℕ → List ℕ → ℕ → Result EntryRead Refusal
read_entry w p i = judge (entry_tests w p i) (Ok (record { slot = slot_of p i; value = le w p (value_at (slot_of p i)) })) Err

-- the key of the entry in that slot
unfoldable pub key_at : List ℕ → Slot → List ℕ
key_at p s = (frame_of p).prefix ++ suffix_of p s

-- ---- copy of a key: "also 15; it writes the key's bytes and no others"
unfoldable pub copy_checks : ℕ → List ℕ → ℕ → List ℕ → List Check
copy_checks w p i out = entry_tests w p i ++ check (leb (length (key_at p (slot_of p i))) (length out)) BufferLength ∷ []

unfoldable pub copy_of : ℕ → List ℕ → ℕ → List ℕ → Result ℕ Refusal
copy_of w p i out = judge (copy_checks w p i out) (Ok (length (key_at p (slot_of p i)))) Err

unfoldable pub copy_buffer : ℕ → List ℕ → ℕ → List ℕ → List ℕ
copy_buffer w p i out = judge (copy_checks w p i out) (put out 0 (key_at p (slot_of p i))) (λ r. out)

-- ---- trailing id 1, 2, 4, 10, 14, 16: "the key's last 8 bytes, big-endian"
abbrev pub trailing_checks : ℕ → List ℕ → ℕ → List Check
trailing_checks w p i = entry_tests w p i ++ check (leb 8 (length (key_at p (slot_of p i)))) ShortKey ∷ []

unfoldable pub trailing_of : ℕ → List ℕ → ℕ → Result ℕ Refusal
trailing_of w p i = let k = key_at p (slot_of p i) in judge (trailing_checks w p i) (Ok (be 8 k (length k - 8))) Err

-- ---- space numbers "1, 4, and 5 (with 8) where effective exceeds used"
abbrev pub space_checks : List ℕ → List Check
space_checks p = page_length p ∷ rules_hold p ∷ check (leb (numbers_of p).effective (used (numbers_of p))) (NotFit 8) ∷ []

unfoldable pub space_read : List ℕ → Result Space Refusal
space_read p = judge (space_checks p) (Ok (space_of (numbers_of p))) Err

-- ---- need of an entry 2, 3, 8, "from a key and a prefix length (8: key shorter)"
abbrev pub need_checks : ℕ → ℕ → List ℕ → List Check
need_checks w n k = width_known w ∷ key_length k ∷ check (leb n (length k)) Prefix ∷ []

unfoldable pub need_of : ℕ → ℕ → List ℕ → Result ℕ Refusal
need_of w n k = judge (need_checks w n k) (Ok (need w (length k - n))) Err

-- ---- forecast from two fences 3: "common prefix length, and 96 plus the body bytes of prefix and fences"
abbrev pub forecast_checks : List ℕ → List ℕ → List Check
forecast_checks lower upper = key_length lower ∷ key_length upper ∷ []

unfoldable pub forecast_of : List ℕ → List ℕ → Result Forecast Refusal
forecast_of lower upper = judge (forecast_checks lower upper) (Ok (record { prefix_len = common lower upper; space = 96 + begin_bytes lower upper })) Err

-- ---- layout and fit verdict 1, 2
abbrev pub verdict_checks : ℕ → List ℕ → List Check
verdict_checks w p = page_length p ∷ width_known w ∷ []

unfoldable pub layout_verdict : ℕ → List ℕ → Result Bool Refusal
layout_verdict w p = judge (verdict_checks w p) (Ok (layout_of w p)) Err

unfoldable pub fit_verdict : ℕ → List ℕ → Result ℕ Refusal
fit_verdict w p = judge (verdict_checks w p) (Ok (fit_of w p)) Err
