-- Searches: how a slot meets a probe, halving over the slots visited, and scans of a listing.
use Rattle.std.specs.Prelude.{ℕ, zero, suc, ◌+◌, ◌-◌, ◌/◌, min, Bool, true, false, List, [], leb, ltb, ℤ, pos, negsuc, length, take, drop, get_or, Result, Ok, Err}
use Rattle.octets.specs.Bytes.{part}
use Rattle.keys.specs.Choice.{pick}
use Rattle.keys.specs.Keys.{by_number, order, head_of}
use Rattle.paper.specs.Lists.{up_to, all, differ}
use Rattle.paper.specs.Page.{slot_of, Frame, frame_of, numbers_of, hints_of}
use Rattle.paper.specs.Hints.{in_use, window_low, window_high}
use Rattle.paper.specs.Verdicts.{slot_payload, within}
use Rattle.paper.specs.Listing.{Entry, keys}
use Rattle.paper.specs.declared.page.Slot.{Slot}
use Rattle.paper.specs.declared.refusal.Refusal.TheVariants.{Payload}
use Rattle.std.specs.declared.cmp.Ordering.{Ordering}
use Rattle.paper.specs.declared.refusal.Refusal.{Refusal}
use Rattle.paper.specs.declared.answers.Child.{Child}
use Rattle.paper.specs.declared.answers.Found.{Found}
use Rattle.std.specs.declared.cmp.Ordering.TheVariants.{Less, Equal, Greater}
use Rattle.paper.specs.declared.answers.Found.TheVariants.{Equal as Found-as-Equal, Smaller}

-- ---- a slot and a probe
-- how a slot meets a probe, as `meets` says, with head and length as stored: the same wherever the head is faithful (U4); s is the probe's
-- suffix
unfoldable pub slot_meets : List ℕ → Slot → List ℕ → Ordering
slot_meets p o s =
    by_number o.head (head_of s)
    (pick (leb (min o.len (length s)) 4) (by_number o.len (length s) Equal) (order (part o.len p (96 + o.offset)) s))

-- 14 "a slot visited has payload outside end..16,256"
unfoldable pub visit : ℕ → List ℕ → ℕ → Ordering → Result Ordering Refusal
visit w p i o = pick (within (numbers_of p).end (slot_payload w (slot_of p i))) (Ok o) (Err Payload)

-- where a probe stands to the page's prefix: Less is before it, Equal within it, Greater after it
unfoldable pub class_of : Frame → List ℕ → Ordering
class_of f k = order (take f.prefix_len k) f.prefix

-- the probe's suffix: "part of the probe, never of the page"
abbrev pub probe_suffix : Frame → List ℕ → List ℕ
probe_suffix f k = drop f.prefix_len k

-- a slot against a probe of that class: every slot is above a probe before the prefix, and below one after it
unfoldable pub by_class : Ordering → Ordering → Ordering
by_class Less o = Greater
by_class Equal o = o
by_class Greater o = Less

unfoldable pub slot_order : ℕ → List ℕ → List ℕ → ℕ → Result Ordering Refusal
slot_order w p k i =
    let f = frame_of p in
    visit w p i (by_class (class_of f k) (slot_meets p (slot_of p i) (probe_suffix f k)))

-- "-1, 0 or 1 for a slot below, at or above the probe"
unfoldable pub sign_of : Ordering → ℤ
sign_of Less = negsuc 0
sign_of Equal = pos 0
sign_of Greater = pos 1

-- ---- halving, "as `persisted_lower_bound` does"
abbrev pub middle : ℕ → ℕ → ℕ
middle lo hi = lo + (hi - lo) / 2

-- halve lo..hi by what stands at its middle, at most so many times: t picks the upper or the lower half, d answers where nothing is left
unfoldable pub halving : {A B : Type 0} → (A → B → B → B) → (ℕ → B) → ℕ → (ℕ → A) → ℕ → ℕ → B
halving t d zero f lo hi = d lo
halving t d (suc k) f lo hi =
    let m = middle lo hi in
    pick (ltb lo hi) (t (f m) (halving t d k f (m + 1) hi) (halving t d k f lo m)) (d lo)

-- is a key of that order to the probe passed: the lower bound passes those below, the upper one (u true) equal ones too
unfoldable pub passed : Bool → Ordering → Bool
passed u Less = true
passed u Equal = u
passed u Greater = false

-- go on in the upper half where the slot is passed, else in the lower; a refusal ends the search
unfoldable pub turn : Bool → Result Ordering Refusal → Result ℕ Refusal → Result ℕ Refusal → Result ℕ Refusal
turn u (Ok o) a b = pick (passed u o) a b
turn u (Err r) a b = Err r

-- the slots lo..hi of count: hi - lo is at most count, and each step at least halves it
abbrev pub search : Bool → ℕ → List ℕ → List ℕ → ℕ → ℕ → Result ℕ Refusal
search u w p k lo hi = halving (turn u) Ok (numbers_of p).count (slot_order w p k) lo hi

-- "search slots lo x window to (up+1) x window": all of them where no hints are in use
unfoldable pub bound_in : Bool → ℕ → List ℕ → List ℕ → Result ℕ Refusal
bound_in u w p k =
    let n = (numbers_of p).count in
    let head = head_of (probe_suffix (frame_of p) k) in
    pick (in_use (frame_of p).flag n) (search u w p k (window_low (hints_of p) head n) (window_high (hints_of p) head n)) (search u w p k 0 n)

-- "a probe before the prefix gives 0, after it count"
unfoldable pub bound_by : Ordering → ℕ → Result ℕ Refusal → Result ℕ Refusal
bound_by Less n b = Ok 0
bound_by Equal n b = b
bound_by Greater n b = Ok n

unfoldable pub bound : Bool → ℕ → List ℕ → List ℕ → Result ℕ Refusal
bound u w p k = bound_by (class_of (frame_of p) k) (numbers_of p).count (bound_in u w p k)

-- ---- find: "the equal key's slot, or the number of smaller keys. It takes the lower bound, then tests that slot"
unfoldable pub tested : ℕ → Result Ordering Refusal → Result Found Refusal
tested r (Ok Less) = Ok (Smaller r)
tested r (Ok Equal) = Ok (Found-as-Equal r)
tested r (Ok Greater) = Ok (Smaller r)
tested r (Err n) = Err n

unfoldable pub find_at : ℕ → List ℕ → List ℕ → Result ℕ Refusal → Result Found Refusal
find_at w p k (Ok r) = pick (ltb r (numbers_of p).count) (tested r (slot_order w p k r)) (Ok (Smaller r))
find_at w p k (Err n) = Err n

-- ---- what a scan of a listing finds
-- how many keys are passed before the first that is not
abbrev pub scan : Bool → List ℕ → List Entry → ℕ
scan u k l = up_to (λ y. passed u (order y k)) (keys l)

unfoldable pub find_scan : List ℕ → List Entry → Result Found Refusal
find_scan k l = let r = scan false k l in pick (all (differ k) (keys l)) (Ok (Smaller r)) (Ok (Found-as-Equal r))

-- "the highest slot whose key is at most the probe, or -1 where the lower fence's own child serves; with that child's value": v is the
-- lower fence's value, r the number of keys at most the probe
unfoldable pub child_at : ℕ → List Entry → ℕ → Child
child_at v l zero = record { slot = negsuc 0; value = v }
child_at v l (suc r) = record { slot = pos r; value = (get_or l r (record { key = []; value = 0 })).value }

unfoldable pub child_scan : ℕ → List ℕ → List Entry → Child
child_scan v k l = child_at v l (scan true k l)
