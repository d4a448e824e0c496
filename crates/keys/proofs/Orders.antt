-- Laws of the order of keys: it is reflexive, antisymmetric, transitive and total, two keys are at the same place exactly when their
-- bytes are equal, and a common front changes nothing. Assumes nothing.
use Rattle.std.proofs.Common.{◌≡◌, refl, sym, ap, ◌∙◌, Bool, true, false, ◌⊎◌, inl, inr, ⊎_elim, List, [], ◌∷◌, ◌++◌, ℕ, suc, ◌<◌, arith, eq-eqb, eqb-true, eqb, length, get_or, drop, drop-cons}
use Rattle.keys.specs.Choice.{both}
use Rattle.keys.specs.Keys.{by_number, order, same_list}
use Rattle.keys.proofs.Numbers.{below_same, below_above, same_above, by_number-lt, by_number_eq, by_number-flip, by_number_below, by_number_same}
use Rattle.std.specs.declared.cmp.Ordering.{Ordering}
use Rattle.std.specs.declared.cmp.Ordering.TheVariants.{Less, Equal, Greater}
use Rattle.std.specs.Ordering.{ordering_reverse}

pub order_refl : (a : List ℕ) → order a a ≡ Equal
unfolding order
order_refl [] = refl
order_refl (x ∷ xs) = by_number_eq x x (order xs xs) refl ∙ order_refl xs

-- the other way round the answer is the other way round
pub order_flip : (a b : List ℕ) → order b a ≡ ordering_reverse (order a b)
unfolding order
order_flip [] [] = refl
order_flip [] (y ∷ ys) = refl
order_flip (x ∷ xs) [] = refl
order_flip (x ∷ xs) (y ∷ ys) = rw (order_flip xs ys) (by_number-flip x y (order xs ys))

-- keys at the same place are equal
pub order_same : (a b : List ℕ) → order a b ≡ Equal → a ≡ b
unfolding order
order_same [] [] e = refl
order_same [] (y ∷ ys) e = below_same e
order_same (x ∷ xs) [] e = same_above (sym e)
order_same (x ∷ xs) (y ∷ ys) e = let h = by_number_same x y (order xs ys) e in cc (order_same xs ys h.1)

-- and equal keys are at the same place
pub same_order : (a b : List ℕ) → a ≡ b → order a b ≡ Equal
same_order a b e = rw (← e) (order_refl a)

pub order_trans : (a b c : List ℕ) → order a b ≡ Less → order b c ≡ Less → order a c ≡ Less
unfolding order
order_trans [] [] c e f = f
order_trans [] (y ∷ ys) [] e f = below_above (sym f)
order_trans [] (y ∷ ys) (z ∷ zs) e f = refl
order_trans (x ∷ xs) [] c e f = below_above (sym e)
order_trans (x ∷ xs) (y ∷ ys) [] e f = below_above (sym f)
order_trans (x ∷ xs) (y ∷ ys) (z ∷ zs) e f =
    let rest = order_trans xs ys zs in
    let low : x < z → by_number x z (order xs zs) ≡ Less = by_number-lt x z (order xs zs) in
    ⊎_elim (λ h. ⊎_elim (λ k. low (omega arith)) (λ k. low (omega arith)) (by_number_below y z (order ys zs) f))
    (λ h. ⊎_elim (λ k. low (omega arith)) (λ k. by_number_eq x z (order xs zs) (omega arith) ∙ rest h.1 k.1) (by_number_below y z (order ys zs) f))
    (by_number_below x y (order xs ys) e)

-- ---- the three answers
pub order_total : (a b : List ℕ) → (order a b ≡ Less) ⊎ ((a ≡ b) ⊎ (order b a ≡ Less))
order_total a b = go (order a b) refl
  where
    go : (o : Ordering) → order a b ≡ o → (order a b ≡ Less) ⊎ ((a ≡ b) ⊎ (order b a ≡ Less))
    go Less e = inl e
    go Equal e = inr (inl (order_same a b e))
    go Greater e = inr (inr (order_flip a b ∙ ap ordering_reverse e))

pub order-above : (a b : List ℕ) → order a b ≡ Greater → order b a ≡ Less
order-above a b e = order_flip a b ∙ ap ordering_reverse e

pub order_below : (a b : List ℕ) → order a b ≡ Less → order b a ≡ Greater
order_below a b e = order_flip a b ∙ ap ordering_reverse e

-- ---- a common front
pub order-append : (p a b : List ℕ) → order (p ++ a) (p ++ b) ≡ order a b
unfolding order
order-append [] a b = refl
order-append (x ∷ p) a b = by_number_eq x x (order (p ++ a) (p ++ b)) refl ∙ order-append p a b

-- one byte of each
pub order_step : (a b : List ℕ) (i : ℕ) → i < length a → i < length b
    → order (drop i a) (drop i b) ≡ by_number (get_or a i 0) (get_or b i 0) (order (drop (suc i) a) (drop (suc i) b))
unfolding order
order_step a b i h k = rw (drop-cons a i 0, drop-cons b i 0)

-- ---- the same bytes
pub same_list_refl : (a : List ℕ) → same_list a a ≡ true
unfolding same_list
same_list_refl [] = refl
same_list_refl (x ∷ xs) = rw (eq-eqb x x refl) (same_list_refl xs)

-- a true test means equal keys, and equal keys make it true
pub same_list_eq : (a b : List ℕ) → same_list a b ≡ true → a ≡ b
unfolding same_list
same_list_eq [] [] e = refl
same_list_eq [] (y ∷ ys) e = absurd (let z : ◌≡◌ {A = ℕ} 0 1 = cc in omega arith)
same_list_eq (x ∷ xs) [] e = absurd (let z : ◌≡◌ {A = ℕ} 0 1 = cc in omega arith)
same_list_eq (x ∷ xs) (y ∷ ys) e = go (eqb x y) refl (same_list_eq xs ys) e
  where
    go : (t : Bool) → eqb x y ≡ t → (same_list xs ys ≡ true → xs ≡ ys) → both t (same_list xs ys) ≡ true → x ∷ xs ≡ y ∷ ys
    go true q next r = cc (eqb-true x y q, next r)
    go false q next r = absurd (let z : ◌≡◌ {A = ℕ} 0 1 = cc in omega arith)

pub eq_same_list : (a b : List ℕ) → a ≡ b → same_list a b ≡ true
eq_same_list a b e = rw (← e) (same_list_refl a)

-- keys that are not equal make it false
pub ne_same_list : (a b : List ℕ) → (a ≡ b → ⊥) → same_list a b ≡ false
ne_same_list a b h = go (same_list a b) refl
  where
    go : (t : Bool) → same_list a b ≡ t → t ≡ false
    go true e = absurd (h (same_list_eq a b e))
    go false e = refl
