-- Suffixes of slots: the head that a suffix has as code finds it, the slot that has this head, and which of two suffixes is below.
-- Assumes nothing.
use Rattle.std.proofs.Common.{◌≡◌, refl, sym, ap, ◌∙◌, Bool, true, false, not, ◌||◌, ◌⊎◌, inl, inr, ⊎_elim, List, ℕ, ◌+◌, ◌-◌, ◌*◌, ◌/◌, ◌^◌, ◌≤◌, ◌<◌, arith, lt-ltb, le-ltb, ltb-true, ltb-false, eqb-true, ltb, eqb, length, take, drop}
use Rattle.std.proofs.lemmas.Bool.{both_ways}
use native.Mathlib.Decide.{dec_le}
use borrow.Author.Tests.{lt-leb}
use Rattle.octets.specs.Bytes.{IsBytes, le, be, part, big_bytes}
use Rattle.octets.proofs.Alike.{be-part}
use Rattle.octets.proofs.Put.{take-bytes}
use Rattle.octets.proofs.Part.{length-part-le}
use Rattle.octets.proofs.Big.{big_bytes-bytes, big_bytes-be}
use Rattle.keys.specs.Keys.{by_number, common, head_of}
use Rattle.keys.proofs.Numbers.{tri, by_number-lt, by_number_eq, by_number_gt}
use Rattle.keys.proofs.Heads.{head-differ, head-lengths}
use Rattle.keys.proofs.Words.{word_out}
use Rattle.paper.specs.Lists.{less}
use Rattle.paper.specs.Page.{slot_at, suffix_of}
use Rattle.paper.specs.declared.page.Slot.{Slot}
use Rattle.paper.proofs.Sorted.{order-less}
use Rattle.paper.proofs.CopyingCall.{suffix-bytes}
use Rattle.node.proofs.Spelling.{suffix-short, suffix-long, length_four}
use Rattle.verdict.specs.Honest.{Honest}
use Rattle.verdict.specs.Tally.{honest_of}
use Rattle.std.specs.declared.cmp.Ordering.TheVariants.{Equal}
use Rattle.std.specs.Ordering.{is_lt}

-- ---- a head with fewer bytes
module _ (x : ℕ) (h : x < 256 ^ 4) where
  pub kept-four : (n : ℕ) → n ≡ 4 → x ≡ head_of (take n (big_bytes 4 x))
  unfolding head_of be big_bytes
  kept-four n e = rw e (omega arith)

  pub kept-three : (n : ℕ) → n ≡ 3 → x / 256 * 256 ≡ head_of (take n (big_bytes 4 x))
  unfolding head_of be big_bytes
  kept-three n e = rw e (omega arith)

  pub kept-two : (n : ℕ) → n ≡ 2 → x / 65536 * 65536 ≡ head_of (take n (big_bytes 4 x))
  unfolding head_of be big_bytes
  kept-two n e = rw e (omega arith)

  pub kept-one : (n : ℕ) → n ≡ 1 → x / 16777216 * 16777216 ≡ head_of (take n (big_bytes 4 x))
  unfolding head_of be big_bytes
  kept-one n e = rw e (omega arith)

pub kept-none : (x n : ℕ) → n ≤ 4 → (n ≡ 4 → ⊥) → (n ≡ 3 → ⊥) → (n ≡ 2 → ⊥) → (n ≡ 1 → ⊥) → 0 ≡ head_of (take n (big_bytes 4 x))
unfolding head_of be
kept-none x n h a b c d = let e : n ≡ 0 = omega arith in rw e

-- ---- the head that a long suffix has
module _ (p : List ℕ) (s : Slot) where
  long-part : 4 < s.len → suffix_of p s ≡ part s.len p (96 + s.offset)
  unfolding suffix_of
  long-part h = rw (lt-leb s.len 4 h)

  pub long-head : 4 < s.len → be 4 p (96 + s.offset) ≡ head_of (suffix_of p s)
  unfolding head_of
  long-head h =
      let e : 96 + s.offset + 0 ≡ 96 + s.offset = omega arith in
      sym (rw (long-part h, be-part 4 s.len p (96 + s.offset) 0 (omega arith), e))

-- ---- the slot with the head that its suffix has
short_again : (n x : ℕ) → x < 256 ^ 4 → n ≤ 4 → take n (big_bytes 4 (head_of (take n (big_bytes 4 x)))) ≡ take n (big_bytes 4 x)
unfolding head_of
short_again n x l h =
    let four = big_bytes 4 x in
    let e : length (take n four) ≡ n = length_four n x four refl h in
    ap (λ (k : ℕ). take k (big_bytes 4 (be 4 (take n four) 0))) (sym e) ∙ big_bytes-be 4 (take n four) (take-bytes n four (big_bytes-bytes 4 x l)) (omega arith)

module _ (p : List ℕ) (s : Slot) (l : s.head < 256 ^ 4) where
  -- it has the same suffix
  pub honest-suffix : suffix_of p (honest_of p s) ≡ suffix_of p s
  unfolding honest_of
  honest-suffix =
      elim (dec_le s.len 4) [
        | yes h ↦ suffix-short p (honest_of p s) h ∙ rw (suffix-short p s h) (short_again s.len s.head l h)
        | no h ↦ long-part p (honest_of p s) (omega arith) ∙ sym (long-part p s (omega arith))
      ]

  -- so its head is that of its suffix
  pub honest-is : (x : Slot) → (4 < s.len → 96 + s.offset + s.len ≤ length p) → x ≡ honest_of p s → (x ≡ honest_of p s) × Honest p x × (suffix_of p x ≡ suffix_of p s)
  unfolding honest_of
  honest-is x r e = (e, rw e (record { faithful = ap head_of (sym honest-suffix); room = r }), rw e honest-suffix)

-- ---- which of two suffixes is below
below_number : (x y : ℕ) → is_lt (by_number x y Equal) ≡ ltb x y
below_number x y =
    ⊎_elim (λ h. rw (by_number-lt x y Equal h, lt-ltb x y h))
    (⊎_elim (λ h. rw (by_number_eq x y Equal h, le-ltb x y (omega arith))) (λ h. rw (by_number_gt x y Equal h, le-ltb x y (omega arith))))
    (tri x y)

length-suffix : (p : List ℕ) (s : Slot) → (4 < s.len → 96 + s.offset + s.len ≤ length p) → length (suffix_of p s) ≡ s.len
length-suffix p s r =
    elim (dec_le s.len 4) [
      | yes h ↦ rw (suffix-short p s h) (length_four s.len s.head (big_bytes 4 s.head) refl h)
      | no h ↦ rw (long-part p s (omega arith)) (length-part-le s.len p (96 + s.offset) (r (omega arith)))
    ]

module _ (p : List ℕ) (bytes : IsBytes p) (a b : Slot) (la : a.head < 256 ^ 4) (lb : b.head < 256 ^ 4)
    (ea : a.head ≡ head_of (suffix_of p a)) (eb : b.head ≡ head_of (suffix_of p b)) where
  -- heads that differ
  pub below-heads : (a.head ≡ b.head → ⊥) → ltb a.head b.head ≡ less (suffix_of p a) (suffix_of p b)
  unfolding less
  below-heads n =
      let o = head-differ (suffix_of p a) (suffix_of p b) (suffix-bytes p bytes a la) (suffix-bytes p bytes b lb) (λ e. n (ea ∙ e ∙ sym eb)) in
      sym (rw (o, ← ea, ← eb) (below_number a.head b.head))

  module _ (ra : 4 < a.len → 96 + a.offset + a.len ≤ length p) (rb : 4 < b.len → 96 + b.offset + b.len ≤ length p) (e : a.head ≡ b.head) where
    lengths : (a.len ≤ 4) ⊎ (b.len ≤ 4) → less (suffix_of p a) (suffix_of p b) ≡ ltb a.len b.len
    unfolding less
    lengths h =
        let na = length-suffix p a ra in
        let nb = length-suffix p b rb in
        let o = head-lengths (suffix_of p a) (suffix_of p b) (suffix-bytes p bytes a la) (suffix-bytes p bytes b lb) (sym ea ∙ e ∙ eb)
        (⊎_elim (λ k. inl (omega arith)) (λ k. inr (omega arith)) h) in
        rw (o, na, nb) (below_number a.len b.len)

    -- equal heads, and a suffix that lives in its head
    pub below-short : a.len ≤ 4 → ltb a.len b.len ≡ less (suffix_of p a) (suffix_of p b)
    below-short h = sym (lengths (inl h))

    -- or only the other does
    pub below-long : 4 < a.len → b.len ≤ 4 → false ≡ less (suffix_of p a) (suffix_of p b)
    below-long h k = sym (lengths (inr k) ∙ le-ltb a.len b.len (omega arith))

-- both long: by bytes
pub below_bytes : (p x y : List ℕ) (a b : Slot) (t : Bool) → x ≡ suffix_of p a → y ≡ suffix_of p b → t ≡ less x y
    → t ≡ less (suffix_of p a) (suffix_of p b)
below_bytes p x y a b t ex ey e = rw (← ex, ← ey) e

-- words at a place up to which two keys agree
pub word-less : (a b : List ℕ) → IsBytes a → IsBytes b → (i x y : ℕ) → x ≡ be 8 a i → y ≡ be 8 b i → i ≤ common a b → i + 8 ≤ length a → i + 8 ≤ length b
    → ltb x y ≡ true → less a b ≡ true
word-less a b ha hb i x y p q c h k l =
    let z = ltb-true x y l in
    order-less a b (sym (word_out a b ha hb 8 i x y p q (λ e. omega arith) c h k) ∙ by_number-lt x y Equal z)

-- ---- the slot before
pub alike_long : (x n : ℕ) → (not (eqb x n) || ltb n 16) ≡ false → (x ≡ n) × (16 ≤ n)
alike_long x n e = go (eqb x n) refl e
  where
    go : (t : Bool) → eqb x n ≡ t → (not t || ltb n 16) ≡ false → (x ≡ n) × (16 ≤ n)
    go true q f = (eqb-true x n q, ltb-false n 16 f)
    go false q f = absurd (both_ways true f refl)

pub below_same : (p : List ℕ) (s t b : Slot) (x : Bool) → s ≡ t → x ≡ less (suffix_of p s) (suffix_of p b) → x ≡ true → less (suffix_of p t) (suffix_of p b) ≡ true
below_same p s t b x e f r = rw (← e) (sym f ∙ r)

-- the slot before has the length of this one, and x is where its suffix stands
pub long_room : (p : List ℕ) (at x n m : ℕ) → x ≡ le 2 p (at + 2) → n ≡ le 2 p at → n ≡ m → 16 ≤ m → Honest p (slot_at p at) → 96 + x + m ≤ length p
long_room p at x n m ex en eb l H = let r = H.room (omega arith) in omega arith

-- two long suffixes of one length, of which x is where the first stands
pub below_words : (p : List ℕ) (at : ℕ) (b : Slot) (x n : ℕ) (y : Bool) → x ≡ le 2 p (at + 2) → n ≡ le 2 p at → n ≡ b.len → 16 ≤ b.len
    → (y ≡ true → less (take (96 + x + b.len - (96 + x)) (drop (96 + x) p)) (take (96 + b.offset + b.len - (96 + b.offset)) (drop (96 + b.offset) p)) ≡ true)
    → y ≡ true → less (suffix_of p (slot_at p at)) (suffix_of p b) ≡ true
below_words p at b x n y ex en eb l f r =
    let e : b.len ≡ le 2 p at = sym eb ∙ en in
    let ea : take (96 + x + b.len - (96 + x)) (drop (96 + x) p) ≡ suffix_of p (slot_at p at) = rw (ex, e) (suffix-long p (slot_at p at) (omega arith)) in
    sym (below_bytes p _ _ (slot_at p at) b true ea (suffix-long p b (omega arith)) (sym (f r)))
