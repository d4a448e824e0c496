-- Laws of heads: heads that differ decide the order; where they are equal and a suffix is within four bytes the lengths decide, and else
-- the bytes do. Assumes nothing.
use Rattle.std.proofs.Common.{◌≡◌, refl, sym, ◌∙◌, Bool, true, false, ◌⊎◌, inl, inr, ⊎_elim, List, [], ◌∷◌, ℕ, zero, suc, ◌^◌, ◌≤◌, min, arith, leb-true, leb, length}
use mathlib.Core.Logic.{⊎_map}
use native.Mathlib.Decide.{dec_le}
use Rattle.octets.specs.Bytes.{IsBytes, be}
use Rattle.octets.proofs.Big.{be-cons, be-lt, digits_eq}
use Rattle.keys.specs.Choice.{pick}
use Rattle.keys.specs.Keys.{by_number, order, head_of, meets}
use Rattle.keys.proofs.Numbers.{alike?, by_number-lt, by_number_eq, by_number_gt, by_number_ne, by_number-suc, by_number_digits}
use Rattle.std.specs.declared.cmp.Ordering.{Ordering}
use Rattle.std.specs.declared.cmp.Ordering.TheVariants.{Less, Equal, Greater}

be-nil : (n o : ℕ) → be n [] o ≡ 0
unfolding be
be-nil zero o = refl
be-nil (suc n) o = omega (arith, be-nil n (suc o))

within : (m n : ℕ) → min m n ≤ 4 → (m ≤ 4) ⊎ (n ≤ 4)
within m n h = go (dec_le m 4)
  where
    go : Dec (m ≤ 4) → (m ≤ 4) ⊎ (n ≤ 4)
    go (yes k) = inl k
    go (no k) = inr (omega arith)

tail : (x : ℕ) (xs : List ℕ) → IsBytes (x ∷ xs) → IsBytes xs
tail x xs h i = h (suc i)

-- a number of n bytes from the front of each, then the bytes: the number decides nothing that the bytes do not
front_order : (n : ℕ) (a b : List ℕ) → IsBytes a → IsBytes b → by_number (be n a 0) (be n b 0) (order a b) ≡ order a b
unfolding order
front_order zero a b ha hb = by_number_eq (be 0 a 0) (be 0 b 0) (order a b) (unfold be in refl)
front_order (suc n) [] [] ha hb = by_number_eq (be (suc n) [] 0) (be (suc n) [] 0) Equal refl
front_order (suc n) [] (y ∷ ys) ha hb = rw (be-nil (suc n) 0) (low (be (suc n) (y ∷ ys) 0))
  where
    low : (v : ℕ) → by_number 0 v Less ≡ Less
    low v = ⊎_elim (λ e. by_number_eq 0 v Less e) (λ e. by_number-lt 0 v Less (omega arith)) (alike? 0 v)
front_order (suc n) (x ∷ xs) [] ha hb = rw (be-nil (suc n) 0) (high (be (suc n) (x ∷ xs) 0))
  where
    high : (v : ℕ) → by_number v 0 Greater ≡ Greater
    high v = ⊎_elim (λ e. by_number_eq v 0 Greater e) (λ e. by_number_gt v 0 Greater (omega arith)) (alike? v 0)
front_order (suc n) (x ∷ xs) (y ∷ ys) ha hb =
    let u = be n xs 0 in
    let v = be n ys 0 in
    let o = by_number x y (order xs ys) in
    let next = front_order n xs ys (tail x xs ha) (tail y ys hb) in
    rw (be-cons n x xs, be-cons n y ys, by_number_digits (256 ^ n) x y u v o (be-lt n xs 0 (tail x xs ha)) (be-lt n ys 0 (tail y ys hb)))
    (⊎_elim (λ e. by_number_eq x y (by_number u v o) e ∙ rw (by_number_eq x y (order xs ys) e) next) (λ e. by_number_ne x y (by_number u v o) (order xs ys) e)
    (alike? x y))

-- equal numbers of n bytes, and a key within them: the lengths decide
front_lengths : (n : ℕ) (a b : List ℕ) → IsBytes a → IsBytes b → be n a 0 ≡ be n b 0 → (length a ≤ n) ⊎ (length b ≤ n)
    → order a b ≡ by_number (length a) (length b) Equal
unfolding order
front_lengths n [] [] ha hb l s = sym (by_number_eq 0 0 Equal refl)
front_lengths n [] (y ∷ ys) ha hb l s = sym (by_number-lt 0 (suc (length ys)) Equal (omega arith))
front_lengths n (x ∷ xs) [] ha hb l s = sym (by_number_gt (suc (length xs)) 0 Equal (omega arith))
front_lengths zero (x ∷ xs) (y ∷ ys) ha hb l s = absurd (⊎_elim (λ h. omega arith) (λ h. omega arith) s)
front_lengths (suc n) (x ∷ xs) (y ∷ ys) ha hb l s =
    let next = front_lengths n xs ys (tail x xs ha) (tail y ys hb) in
    let d = digits_eq (256 ^ n) x y (be n xs 0) (be n ys 0) (be-lt n xs 0 (tail x xs ha)) (be-lt n ys 0 (tail y ys hb))
    (sym (be-cons n x xs) ∙ l ∙ be-cons n y ys) in
    by_number_eq x y (order xs ys) d.0 ∙ next d.1 (⊎_map (λ h. omega arith) (λ h. omega arith) s) ∙ sym (by_number-suc (length xs) (length ys) Equal)

module _ (a b : List ℕ) (ha : IsBytes a) (hb : IsBytes b) where
  -- heads that differ decide the order
  pub head-differ : (head_of a ≡ head_of b → ⊥) → order a b ≡ by_number (head_of a) (head_of b) Equal
  unfolding head_of
  head-differ e = sym (front_order 4 a b ha hb) ∙ by_number_ne (be 4 a 0) (be 4 b 0) (order a b) Equal e

  -- equal heads with a suffix within four bytes are ordered by length
  pub head-lengths : head_of a ≡ head_of b → (length a ≤ 4) ⊎ (length b ≤ 4) → order a b ≡ by_number (length a) (length b) Equal
  unfolding head_of
  head-lengths e s = front_lengths 4 a b ha hb e s

  -- so the rule by which a slot meets a probe is the order of the bytes
  pub meets-order : meets a b ≡ order a b
  unfolding meets
  meets-order =
      ⊎_elim (λ e. by_number_eq (head_of a) (head_of b) rest e ∙ equal e (leb (min (length a) (length b)) 4) refl)
      (λ e. by_number_ne (head_of a) (head_of b) rest Equal e ∙ sym (head-differ e))
      (alike? (head_of a) (head_of b))
    where
      rest : Ordering
      rest = pick (leb (min (length a) (length b)) 4) (by_number (length a) (length b) Equal) (order a b)

      equal : head_of a ≡ head_of b → (t : Bool) → leb (min (length a) (length b)) 4 ≡ t → pick t (by_number (length a) (length b) Equal) (order a b) ≡ order a b
      equal e true q = sym (head-lengths e (within (length a) (length b) (leb-true (min (length a) (length b)) 4 q)))
      equal e false q = refl
