-- Shared length and order together. Of three keys in order the outer two share what both neighbours share, so the nearest keys share
-- the most, and a key between two fences has the prefix that the fences share. Assumes nothing.
use Rattle.std.proofs.Common.{◌≡◌, refl, sym, ◌⊎◌, inl, inr, ⊎_elim, List, [], ◌∷◌, ℕ, ◌≤◌, ◌<◌, min, arith, take}
use Rattle.keys.specs.Keys.{order, common}
use Rattle.keys.proofs.Numbers.{below_above, by_number_below}
use Rattle.keys.proofs.Orders.{order_same}
use Rattle.keys.proofs.Prefixes.{common_eq, common_ne, common-le, common_self, common-take}
use Rattle.std.specs.declared.cmp.Ordering.{Ordering}
use Rattle.std.specs.declared.cmp.Ordering.TheVariants.{Less, Equal, Greater}

-- three keys that rise
common-rising : (a b c : List ℕ) → order a b ≡ Less → order b c ≡ Less → common a c ≡ min (common a b) (common b c)
unfolding order common
common-rising [] b c e f = omega arith
common-rising (x ∷ xs) [] c e f = below_above (sym e)
common-rising (x ∷ xs) (y ∷ ys) [] e f = below_above (sym f)
common-rising (x ∷ xs) (y ∷ ys) (z ∷ zs) e f =
    go (by_number_below x y (order xs ys) e) (by_number_below y z (order ys zs) f) (common-rising xs ys zs)
  where
    Goal : Type 0
    Goal = common (x ∷ xs) (z ∷ zs) ≡ min (common (x ∷ xs) (y ∷ ys)) (common (y ∷ ys) (z ∷ zs))

    go : (x < y) ⊎ ((x ≡ y) × (order xs ys ≡ Less)) → (y < z) ⊎ ((y ≡ z) × (order ys zs ≡ Less))
        → (order xs ys ≡ Less → order ys zs ≡ Less → common xs zs ≡ min (common xs ys) (common ys zs)) → Goal
    go (inl h) k next =
        let m : x ≡ z → ⊥ = ⊎_elim (λ l e. omega arith) (λ l e. omega arith) k in
        omega (arith, common_ne x z xs zs m, common_ne x y xs ys (λ e. omega arith))
    go (inr h) (inl k) next = omega (arith, common_ne x z xs zs (λ e. omega arith), common_ne y z ys zs (λ e. omega arith))
    go (inr h) (inr k) next =
        omega (arith, common_eq x z xs zs (omega arith), common_eq x y xs ys h.0, common_eq y z ys zs k.0, next h.1 k.1)

-- a key is not above another: it is below it, or they are equal
up_to : (a b : List ℕ) → (order a b ≡ Greater → ⊥) → (order a b ≡ Less) ⊎ (a ≡ b)
up_to a b h = go (order a b) refl
  where
    go : (o : Ordering) → order a b ≡ o → (order a b ≡ Less) ⊎ (a ≡ b)
    go Less e = inl e
    go Equal e = inr (order_same a b e)
    go Greater e = absurd (h e)

-- three keys in order, equal ones too
module _ (a b c : List ℕ) (ab : order a b ≡ Greater → ⊥) (bc : order b c ≡ Greater → ⊥) where
  pub common-between : common a c ≡ min (common a b) (common b c)
  common-between =
      ⊎_elim
      (λ h. ⊎_elim (λ k. common-rising a b c h k) (λ k. let l = common-le a b in let s = common_self b in rw (← k) (omega arith)) (up_to b c bc))
      (λ h. let l = common-le a c in let s = common_self a in rw (← h) (omega arith))
      (up_to a b ab)

  -- the nearer key shares at least as much, on either side
  pub nearer-below : common a c ≤ common b c
  nearer-below = omega (arith, common-between)

  pub nearer-above : common a c ≤ common a b
  nearer-above = omega (arith, common-between)

  -- a key between two fences begins with what the fences share
  pub between-prefix : take (common a c) b ≡ take (common a c) a
  between-prefix = sym (common-take a b (common a c) nearer-above)
