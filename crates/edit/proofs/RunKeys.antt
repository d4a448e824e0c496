-- The tests of a run copy, slot by slot: a turn and the end of each loop, and that over all slots of the run they are the paper's tests of its
-- entries. Assumes nothing.
use Rattle.std.proofs.Common.{◌≡◌, refl, sym, ap, ◌∙◌, ⊎_elim, Bool, true, false, List, [], ◌∷◌, ◌++◌, ℕ, zero, suc, ◌+◌, ◌-◌, ◌*◌, ◌≤◌, ◌<◌, min, arith, eq-eqb, ne_eqb, le-leb, leb, length, take, drop, get_or, length-append, length-drop, drop-cons, Result, Ok, Err}
use Rattle.std.specs.Prelude.{⊤}
use native.Mathlib.Decide.{dec_le}
use borrow.Author.Tests.{lt-leb}
use lib.ListN.{length-map, get_or-map}
use Rattle.octets.specs.Bytes.{le}
use Rattle.keys.specs.Choice.{pick}
use Rattle.keys.specs.Keys.{same_list}
use Rattle.keys.proofs.Numbers.{alike?}
use Rattle.keys.proofs.Orders.{order-append}
use Rattle.paper.specs.Lists.{sum, less}
use Rattle.paper.specs.Page.{slot_at, place, slot_of, prefix_of, suffix_of, value_at, body_bytes, frame_of, numbers_of, header_of}
use Rattle.paper.specs.Space.{need}
use Rattle.paper.specs.Listing.{Entry, listing, keys}
use Rattle.paper.specs.Refusals.{judge}
use Rattle.paper.specs.Calls.{key_at, has_prefix, prefix_held, inside_fences, run, entry_checks, above_last, need_of_all}
use Rattle.paper.specs.declared.page.Slot.{Slot}
use Rattle.paper.specs.declared.page.Header.{Header}
use Rattle.paper.specs.declared.refusal.Refusal.{Refusal}
use Rattle.paper.specs.declared.refusal.Refusal.TheVariants.{Prefix}
use Rattle.paper.proofs.Same.{body_bytes_long}
use Rattle.paper.proofs.Holding.{judge_hold, done_holds, err_ok, refused-judge}
use Rattle.paper.proofs.Listed.{listed}
use Rattle.paper.proofs.Filing.{length-listing}
use Rattle.paper.proofs.CopyingFit.{prefix_whole}
use Rattle.node.proofs.Spelling.{length-prefix_of, length-suffix_of, length_four, suffix-short}
use Rattle.search.specs.Fence.{LongLies}
use Rattle.edit.specs.RunTests.{Shown, Fenced, Meeting, standing, standing_from, passes_last, needs_from}
use Rattle.edit.proofs.Cuts.{gone-is, whole_length}
use Rattle.std.specs.Ordering.{is_lt}

-- ---- what was read of the source
-- its prefix
pub prefix-own : (q : List ℕ) (l : ℕ) → Shown q l → (P : List ℕ) → P ≡ prefix_of q l → P ≡ (frame_of q).prefix
unfolding frame_of
prefix-own q l Q P e = e ∙ ap (prefix_of q) Q.prefix

prefix_long : (q : List ℕ) (l : ℕ) → Shown q l → (P : List ℕ) → P ≡ prefix_of q l → length P ≡ l
prefix_long q l Q P e = rw e (length-prefix_of q l (omega (arith, Q.size)) Q.most)

pub shown-own : (q : List ℕ) (l : ℕ) → Shown q l → (P : List ℕ) → P ≡ prefix_of q l → Shown q (length P)
shown-own q l Q P e = rw (prefix_long q l Q P e) Q

-- both prefixes, as far as the shorter goes
pub meeting : (p : List ℕ) (h : Header) → Fenced p h → (whole P : List ℕ) → whole ≡ prefix_of p h.prefix_len → (c : ℕ) → c ≡ min (length whole) (length P)
    → (t : Bool) → t ≡ same_list (take c P) (take c whole) → Meeting p h P c t
meeting p h F whole P e c f t g = record { cut = rw (← whole_length p h F whole e) f; alikeness = rw (← e) g }

-- a slot of it that was read
pub slot_lies : (q : List ℕ) (l : ℕ) → Shown q l → (j : ℕ) → j < (numbers_of q).count → (s : Slot) → s ≡ slot_at q (place j) → LongLies (length q) s
unfolding slot_of
slot_lies q l Q j h s e = rw e (Q.rows j h)

long_suffix_lem : (q : List ℕ) (s : Slot) → LongLies (length q) s → length (suffix_of q s) ≡ s.len
long_suffix_lem q s h = go (dec_le s.len 4)
  where
    go : Dec (s.len ≤ 4) → length (suffix_of q s) ≡ s.len
    go (yes l) = rw (suffix-short q s l) (length_four s.len s.head _ refl l)
    go (no l) = length-suffix_of q s (let k = h (omega arith) in omega (arith, body_bytes_long 4 s.len (omega arith)))

length-key : (q : List ℕ) (l : ℕ) → Shown q l → (j : ℕ) → j < (numbers_of q).count → length (key_at q (slot_of q j)) ≡ l + (slot_of q j).len
unfolding key_at frame_of
length-key q l Q j h =
    rw (length-append, long_suffix_lem q (slot_of q j) (Q.rows j h), ← Q.prefix, length-prefix_of q l (omega (arith, Q.size)) Q.most)

-- and its key, of both pieces as they were read
pub key-read : (q : List ℕ) (j : ℕ) (P : List ℕ) → P ≡ (frame_of q).prefix → (s : Slot) → s ≡ slot_at q (place j) → (S : List ℕ) → S ≡ suffix_of q s → P ++ S ≡ key_at q (slot_of q j)
unfolding key_at slot_of
key-read q j P f s g S k = rw (f, k, g)

-- whose pieces are no more than what a slot can hold
pub key_most : (q P : List ℕ) → Shown q (length P) → (j : ℕ) → j < (numbers_of q).count → (s : Slot) → s ≡ slot_at q (place j) → (S : List ℕ) → S ≡ suffix_of q s → (g : ℕ)
    → length P + length S ≤ 65535 + g
key_most q P Q j h s e S k g =
    let lies = slot_lies q (length P) Q j h s e in
    rw (k, long_suffix_lem q s lies) (go lies (dec_le s.len 4))
  where
    go : LongLies (length q) s → Dec (s.len ≤ 4) → length P + s.len ≤ 65535 + g
    go lies (yes l) = omega (arith, Q.most)
    go lies (no l) = omega (arith, Q.most, Q.size, lies (omega arith), body_bytes_long 4 s.len (omega arith))

-- ---- 8 and 9: one turn
module _ (p q : List ℕ) (j e : ℕ) (lt : j < e) where
  abbrev key : List ℕ
  key = key_at q (slot_of q j)

  standing-turn : standing_from p q j (e - j) ≡ judge (prefix_held p key ∷ inside_fences p key ∷ []) (standing_from p q (j + 1) (e - (j + 1))) Err
  unfolding standing_from
  standing-turn = let k : e - j ≡ suc (e - (j + 1)) = omega arith in rw k

  -- r is what was found of the key
  module _ (r : Result ⊤ Refusal) (k : r ≡ standing p key) where
    pub stand-refused : (x : Refusal) → r ≡ Err x → Err x ≡ standing_from p q j (e - j)
    unfolding standing
    stand-refused x t =
        sym
        (standing-turn
        ∙ refused-judge (prefix_held p key ∷ inside_fences p key ∷ []) tt x (sym k ∙ t) (standing_from p q (j + 1) (e - (j + 1))) Err)

    pub stand-on : r ≡ Ok tt → standing_from p q j (e - j) ≡ standing_from p q (j + 1) (e - (j + 1))
    unfolding standing
    stand-on t =
        standing-turn ∙ judge_hold (prefix_held p key ∷ inside_fences p key ∷ []) (standing_from p q (j + 1) (e - (j + 1))) Err (done_holds (prefix_held p key ∷ inside_fences p key ∷ []) (sym k ∙ t))

pub stand_end : (p q : List ℕ) (j e : ℕ) → e ≤ j → standing_from p q j (e - j) ≡ Ok tt
unfolding standing_from
stand_end p q j e h = let k : e - j ≡ 0 = omega arith in rw k

-- the first entry has the prefix where none is refused
first_has : (p q : List ℕ) (a n : ℕ) → standing_from p q a (suc n) ≡ Ok tt → has_prefix (frame_of p) (key_at q (slot_of q a)) ≡ true
unfolding standing_from judge
first_has p q a n e = go (has_prefix (frame_of p) (key_at q (slot_of q a))) _ e
  where
    go : (t : Bool) (x : Result ⊤ Refusal) → pick t x (Err Prefix) ≡ Ok tt → t ≡ true
    go true x e = refl
    go false x e = absurd (err_ok tt Prefix e)

pub first-held : (p q : List ℕ) (a n : ℕ) → (n ≡ 0 → ⊥) → (r : Result ⊤ Refusal) → r ≡ standing_from p q a n → r ≡ Ok tt → has_prefix (frame_of p) (key_at q (slot_of q a)) ≡ true
first-held p q a zero z r f t = absurd (z refl)
first-held p q a (suc n) z r f t = first_has p q a n (sym f ∙ t)

-- ---- 13: one turn; x is what the entry needs, y what is left
module _ (w g l : ℕ) (q : List ℕ) (j e : ℕ) (lt : j < e) (x y : ℕ) (f : x ≡ need w (l + (slot_of q j).len - g)) where
  needs-turn : needs_from w g l q j (e - j) ≡ x + needs_from w g l q (j + 1) (e - (j + 1))
  unfolding needs_from
  needs-turn = let k : e - j ≡ suc (e - (j + 1)) = omega arith in rw (k, f)

  pub needs-full : y < x → leb (needs_from w g l q j (e - j)) y ≡ false
  needs-full h = rw needs-turn (lt-leb (x + needs_from w g l q (j + 1) (e - (j + 1))) y (omega arith))

  pub needs-on : x ≤ y → leb (needs_from w g l q j (e - j)) y ≡ leb (needs_from w g l q (j + 1) (e - (j + 1))) (y - x)
  needs-on h = rw needs-turn (go (needs_from w g l q (j + 1) (e - (j + 1))))
    where
      go : (m : ℕ) → leb (x + m) y ≡ leb m (y - x)
      go m = elim (dec_le m (y - x)) [ yes k ↦ le-leb (x + m) y (omega arith) ∙ sym (le-leb m (y - x) k) | no k ↦ lt-leb (x + m) y (omega arith) ∙ sym (lt-leb m (y - x) (omega arith)) ]

pub needs_end : (w g l : ℕ) (q : List ℕ) (j e y : ℕ) → e ≤ j → leb (needs_from w g l q j (e - j)) y ≡ true
unfolding needs_from
needs_end w g l q j e y h = let k : e - j ≡ 0 = omega arith in rw k (le-leb 0 y (omega arith))

-- what one entry needs; s is its slot
pub need_is : (w g l : ℕ) (q : List ℕ) (j : ℕ) (s : Slot) (x : ℕ) → s ≡ slot_at q (place j) → x ≡ body_bytes 4 (l + s.len - g) → 8 + w + x ≡ need w (l + (slot_of q j).len - g)
unfolding need slot_of
need_is w g l q j s x e d = rw (d, e)

-- ---- 12
pub last_none : (p : List ℕ) (n : ℕ) (k : List ℕ) → n ≡ 0 → passes_last p n k ≡ true
unfolding passes_last
last_none p n k e = rw e

module _ (p : List ℕ) (h : Header) (F : Fenced p h) (q : List ℕ) (l a : ℕ) (Q : Shown q l) (there : a < (numbers_of q).count) (held : has_prefix (frame_of p) (key_at q (slot_of q a)) ≡ true) where
  count-is : (numbers_of p).count ≡ h.count
  unfolding header_of
  count-is = ap (λ (g : Header). g.count) (sym F.header)

  pub last_within : (h.count ≡ 0 → ⊥) → 96 + 8 * (h.count - 1) + 8 ≤ length p
  last_within z = omega (arith, F.shown.slots, F.shown.size, count-is)

  -- the last slot as it was read, and what is left of the source's entry without the page's prefix
  module _ (some : h.count ≡ 0 → ⊥) (last : Slot) (e : last ≡ slot_at p (place (h.count - 1))) where
    pub last-lies : LongLies (length p) last
    last-lies = slot_lies p h.prefix_len F.shown (h.count - 1) (omega (arith, count-is)) last e

    pub last-passed : (k rest : List ℕ) → k ≡ key_at q (slot_of q a) → rest ≡ drop h.prefix_len k → (r : Bool) → r ≡ less (suffix_of p last) rest
        → r ≡ passes_last p h.count (key_at q (slot_of q a))
    unfolding passes_last less slot_of
    last-passed k rest K f r g =
        g
        ∙ rw (ne_eqb h.count 0 some, f, K)
        (ap is_lt
        (sym (order-append (frame_of p).prefix (suffix_of p last) _)
        ∙ rw (← gone-is p h F, prefix_whole (frame_of p) (key_at q (slot_of q a)) held, e)
        (unfold key_at in refl)))

-- ---- the entries of a run
module _ (w : ℕ) (q : List ℕ) where
  abbrev entry : ℕ → Entry
  entry j = record { key = key_at q (slot_of q j); value = le w q (value_at (slot_of q j)) }

  -- it begins with its first slot's
  run-first : (a n : ℕ) → a < (numbers_of q).count → run w q a (suc n) ≡ entry a ∷ run w q (a + 1) n
  unfolding key_at
  run-first a n h =
      let k : suc a ≡ a + 1 = omega arith in
      let d : Entry = record { key = []; value = 0 } in
      rw (drop-cons (listing w q) a d (rw (length-listing w q) h), listed w q a d h, k)

  -- 8 and 9
  module _ (p : List ℕ) where
    pub standing-run : (n a : ℕ) → a + n ≤ (numbers_of q).count → judge (entry_checks p (run w q a n)) (Ok tt) Err ≡ standing_from p q a n
    unfolding entry_checks standing_from judge
    standing-run zero a h = refl
    standing-run (suc n) a h = rw (run-first a n (omega arith), standing-run n (a + 1) (omega arith))

    -- 13
    pub needs-run : (l : ℕ) → Shown q l → (n a : ℕ) → a + n ≤ (numbers_of q).count → need_of_all w p (run w q a n) ≡ needs_from w (frame_of p).prefix_len l q a n
    unfolding need_of_all sum needs_from
    needs-run l Q zero a h = refl
    needs-run l Q (suc n) a h =
        rw (run-first a n (omega arith), length-drop, length-key q l Q a (omega arith))
        (ap (λ (m : ℕ). need w (l + (slot_of q a).len - (frame_of p).prefix_len) + m) (needs-run l Q n (a + 1) (omega arith)))

    -- 12
    keys-last : ((numbers_of p).count ≡ 0 → ⊥) → get_or (keys (listing w p)) ((numbers_of p).count - 1) [] ≡ key_at p (slot_of p ((numbers_of p).count - 1))
    unfolding key_at
    keys-last z =
        let i = (numbers_of p).count - 1 in
        let d : Entry = record { key = []; value = 0 } in
        get_or-map (λ (x : Entry). x.key) (listing w p) i d ∙ ap (λ (x : Entry). x.key) (listed w p i d (omega arith))

    pub above-run : (n a : ℕ) → (n ≡ 0 → ⊥) → a + n ≤ (numbers_of q).count → above_last (keys (listing w p)) (run w q a n) ≡ passes_last p (numbers_of p).count (key_at q (slot_of q a))
    unfolding above_last passes_last
    above-run zero a z h = absurd (z refl)
    above-run (suc n) a z h =
        rw (run-first a n (omega arith), length-map (listing w p) (λ (x : Entry). x.key), length-listing w p)
        (⊎_elim (λ e. rw (eq-eqb (numbers_of p).count 0 e)) (λ e. rw (ne_eqb (numbers_of p).count 0 e, keys-last e)) (alike? (numbers_of p).count 0))

pub ruleset by_last = (slot_lies, key-read, last_none, last_within, last-lies, last-passed)

pub ruleset by_needs = (need_is, needs-full, needs-on, needs_end)
