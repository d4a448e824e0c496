-- Words of bytes against the order of keys and their common prefix: what a loop over words knows at each way out, whatever its step and
-- its byte order. The invariant of all of them is a number, `i ≤ common a b`. Assumes nothing.
use Rattle.std.proofs.Common.{◌≡◌, refl, sym, ◌∙◌, Bool, true, false, ◌&&◌, ◌⊎◌, inl, inr, ⊎_elim, List, ℕ, zero, suc, ◌+◌, ◌^◌, ◌≤◌, ◌<◌, add-zero, arith, eq-eqb, ne_eqb, le-leb, leb-true, leb-false, leb, eqb, length, get_or, drop}
use native.Mathlib.Decide.{dec_lt}
use borrow.Author.Tests.{lt-leb}
use Rattle.octets.specs.Bytes.{IsBytes, le, be}
use Rattle.octets.proofs.Alike.{le-alike}
use Rattle.octets.proofs.Little.{le_same}
use Rattle.octets.proofs.Big.{be-lt, be_same}
use Rattle.keys.specs.Keys.{by_number, order, common}
use Rattle.keys.specs.Walk.{Near}
use Rattle.keys.proofs.Numbers.{alike?, by_number_eq, by_number_ne, by_number_digits}
use Rattle.keys.proofs.Orders.{order_step}
use Rattle.keys.proofs.Prefixes.{common_at, common_grow, order_skip, order_lengths}
use Rattle.std.specs.declared.cmp.Ordering.TheVariants.{Equal}

-- a big-endian word of n bytes orders two keys as its bytes do
word-order : (n : ℕ) (a b : List ℕ) (i : ℕ) → i + n ≤ length a → i + n ≤ length b → IsBytes a → IsBytes b
    → order (drop i a) (drop i b) ≡ by_number (be n a i) (be n b i) (order (drop (i + n) a) (drop (i + n) b))
unfolding be
word-order zero a b i h k ha hb = rw (add-zero i) (sym (by_number_eq 0 0 (order (drop i a) (drop i b)) refl))
word-order (suc n) a b i h k ha hb =
    let f : i + suc n ≡ suc i + n = omega arith in
    let u = be n a (suc i) in
    let v = be n b (suc i) in
    let o = order (drop (suc i + n) a) (drop (suc i + n) b) in
    order_step a b i (omega arith) (omega arith)
    ∙ rw (f, word-order n a b (suc i) (omega arith) (omega arith) ha hb)
    (sym (by_number_digits (256 ^ n) (get_or a i 0) (get_or b i 0) u v o (be-lt n a (suc i) ha) (be-lt n b (suc i) hb)))

-- ---- at the words x and y of n bytes that were read from i on
module _ (a b : List ℕ) (ha : IsBytes a) (hb : IsBytes b) (n i : ℕ) (x y : ℕ) where
  -- big-endian words that differ decide the order
  pub word_out : x ≡ be n a i → y ≡ be n b i → (x ≡ y → ⊥) → i ≤ common a b → i + n ≤ length a → i + n ≤ length b → by_number x y Equal ≡ order a b
  word_out p q e c h k =
      let rest = order (drop (i + n) a) (drop (i + n) b) in
      by_number_ne x y Equal rest e ∙ rw (p, q) (sym (order_skip a b i c ∙ word-order n a b i h k ha hb))

  -- equal words are n bytes more in common, highest byte first or lowest
  pub word_on : x ≡ be n a i → y ≡ be n b i → x ≡ y → i ≤ common a b → i + n ≤ length a → i + n ≤ length b → i + n ≤ common a b
  word_on p q e c h k = common_grow a b i n c h k (be_same n a i b i ha hb (sym p ∙ e ∙ q))

  pub block_on : x ≡ le n a i → y ≡ le n b i → x ≡ y → i ≤ common a b → i + n ≤ length a → i + n ≤ length b → i + n ≤ common a b
  block_on p q e c h k = common_grow a b i n c h k (le_same n a i b i ha hb (sym p ∙ e ∙ q))

  -- little-endian words that differ hold the first difference
  pub block_out : x ≡ le n a i → y ≡ le n b i → (x ≡ y → ⊥) → i ≤ common a b → i + n ≤ length a → i + n ≤ length b → Near a b i n
  block_out p q e c h k = record { fits_a = h; fits_b = k; alike = c; differ = within (dec_lt (common a b) (i + n)) }
    where
      within : Dec (common a b < i + n) → common a b < i + n
      within (yes l) = l
      within (no l) = absurd (e (p ∙ le-alike n a i b i (λ j m. common_at a b (i + j) (omega arith)) ∙ sym q))

  -- so the test of two words, where what stands before them agrees, is that of the common prefix
  pub block-test : (m : ℕ) → i + n ≡ m → x ≡ le n a i → y ≡ le n b i → i ≤ common a b → m ≤ length a → m ≤ length b → eqb x y ≡ leb m (common a b)
  block-test m e p q c h k =
      ⊎_elim (λ f. let on = block_on p q f c (omega arith) (omega arith) in eq-eqb x y f ∙ sym (le-leb m (common a b) (omega arith)))
      (λ f. let out = (block_out p q f c (omega arith) (omega arith)).differ in ne_eqb x y f ∙ sym (lt-leb m (common a b) (omega arith)))
      (alike? x y)

-- two tests of one number, the second of them right where the first holds
pub both_test : (t u : Bool) (m k c : ℕ) → m ≤ k → t ≡ leb m c → (m ≤ c → u ≡ leb k c) → t && u ≡ leb k c
both_test true u m k c h e f = f (leb-true m c (sym e))
both_test false u m k c h e f = let l = leb-false m c (sym e) in sym (lt-leb k c (omega arith))

-- ---- the half with the first difference
module _ (a b : List ℕ) (ha : IsBytes a) (hb : IsBytes b) (n i : ℕ) (x y : ℕ) (N : Near a b i (n + n)) (p : x ≡ le n a i) (q : y ≡ le n b i) where
  pub half-first : (x ≡ y → ⊥) → Near a b i n
  half-first e = block_out a b ha hb n i x y p q e N.alike (omega arith) (omega arith)

  pub half-second : x ≡ y → Near a b (i + n) n
  half-second e =
      let on = block_on a b ha hb n i x y p q e N.alike (omega arith) (omega arith) in
      record { fits_a = omega arith; fits_b = omega arith; alike = on; differ = omega arith }

-- ---- at the end
pub all_alike : (a b : List ℕ) (n : ℕ) → (length a ≤ n) ⊎ (length b ≤ n) → n ≤ common a b → by_number (length a) (length b) Equal ≡ order a b
all_alike a b n h c = sym (order_lengths a b (⊎_elim (λ k. inl (omega arith)) (λ k. inr (omega arith)) h))
