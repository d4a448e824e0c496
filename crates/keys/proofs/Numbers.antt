-- Laws of the order of two numbers, `by_number`. Assumes nothing.
use Rattle.std.proofs.Common.{◌≡◌, sym, ap, ◌∙◌, ◌⊎◌, inl, inr, ⊎_elim, ℕ, suc, ◌+◌, ◌*◌, ◌<◌, arith, lt-ltb, le-ltb}
use native.Mathlib.Decide.{dec_lt}
use lib.Dec.{leb-suc-suc}
use Rattle.octets.proofs.Big.{digits_lt}
use Rattle.keys.specs.Keys.{by_number}
use Rattle.std.specs.declared.cmp.Ordering.{Ordering}
use Rattle.std.specs.declared.cmp.Ordering.TheVariants.{Less, Equal, Greater}
use Rattle.std.specs.Ordering.{ordering_reverse}

-- two numbers are below, equal or above
pub tri : (x y : ℕ) → (x < y) ⊎ ((x ≡ y) ⊎ (y < x))
tri x y = go (dec_lt x y) (dec_lt y x)
  where
    go : Dec (x < y) → Dec (y < x) → (x < y) ⊎ ((x ≡ y) ⊎ (y < x))
    go (yes h) d = inl h
    go (no h) (yes k) = inr (inr k)
    go (no h) (no k) = inr (inl (omega arith))

-- equal, or not
pub alike? : (x y : ℕ) → (x ≡ y) ⊎ (x ≡ y → ⊥)
alike? x y = ⊎_elim (λ h. inr (λ e. omega arith)) (⊎_elim inl (λ h. inr (λ e. omega arith))) (tri x y)

-- an answer is one of three, and no two of them are the same
pub below_same : {A : Type 0} → Less ≡ Equal → A
below_same e = absurd (let z : ◌≡◌ {A = ℕ} 0 1 = cc in omega arith)

pub below_above : {A : Type 0} → Less ≡ Greater → A
below_above e = absurd (let z : ◌≡◌ {A = ℕ} 0 1 = cc in omega arith)

pub same_above : {A : Type 0} → Equal ≡ Greater → A
same_above e = absurd (let z : ◌≡◌ {A = ℕ} 0 1 = cc in omega arith)

-- ---- what the numbers say
pub by_number-lt : (x y : ℕ) (o : Ordering) → x < y → by_number x y o ≡ Less
unfolding by_number
by_number-lt x y o h = simp (lt-ltb x y h)

pub by_number_eq : (x y : ℕ) (o : Ordering) → x ≡ y → by_number x y o ≡ o
unfolding by_number
by_number_eq x y o h = simp (le-ltb x y (omega arith), le-ltb y x (omega arith))

pub by_number_gt : (x y : ℕ) (o : Ordering) → y < x → by_number x y o ≡ Greater
unfolding by_number
by_number_gt x y o h = simp (le-ltb x y (omega arith), lt-ltb y x h)

-- numbers that differ decide alone
pub by_number_ne : (x y : ℕ) (o q : Ordering) → (x ≡ y → ⊥) → by_number x y o ≡ by_number x y q
by_number_ne x y o q e =
    ⊎_elim (λ h. by_number-lt x y o h ∙ sym (by_number-lt x y q h))
    (⊎_elim (λ h. absurd (e h)) (λ h. by_number_gt x y o h ∙ sym (by_number_gt x y q h)))
    (tri x y)

pub by_number-flip : (x y : ℕ) (o : Ordering) → by_number y x (ordering_reverse o) ≡ ordering_reverse (by_number x y o)
by_number-flip x y o =
    ⊎_elim (λ h. rw (by_number-lt x y o h, by_number_gt y x (ordering_reverse o) h))
    (⊎_elim (λ h. rw (by_number_eq x y o h, by_number_eq y x (ordering_reverse o) (sym h))) (λ h. rw (by_number_gt x y o h, by_number-lt y x (ordering_reverse o) h)))
    (tri x y)

pub by_number-suc : (x y : ℕ) (o : Ordering) → by_number (suc x) (suc y) o ≡ by_number x y o
unfolding by_number
by_number-suc x y o = simp leb-suc-suc

-- of two numbers in base P the higher digits decide, and where they are equal the lower ones
pub by_number_digits : (P x y u v : ℕ) (o : Ordering) → u < P → v < P → by_number (x * P + u) (y * P + v) o ≡ by_number x y (by_number u v o)
by_number_digits P x y u v o hu hv =
    ⊎_elim (λ h. by_number-lt (x * P + u) (y * P + v) o (digits_lt P x y u v hu h) ∙ sym (by_number-lt x y (by_number u v o) h))
    (⊎_elim (λ e. lower (ap (λ (k : ℕ). k * P) e) (tri u v) ∙ sym (by_number_eq x y (by_number u v o) e))
    (λ h. by_number_gt (x * P + u) (y * P + v) o (digits_lt P y x v u hv h) ∙ sym (by_number_gt x y (by_number u v o) h)))
    (tri x y)
  where
    lower : x * P ≡ y * P → (u < v) ⊎ ((u ≡ v) ⊎ (v < u)) → by_number (x * P + u) (y * P + v) o ≡ by_number u v o
    lower f (inl h) = by_number-lt (x * P + u) (y * P + v) o (omega arith) ∙ sym (by_number-lt u v o h)
    lower f (inr (inl h)) = by_number_eq (x * P + u) (y * P + v) o (omega arith) ∙ sym (by_number_eq u v o h)
    lower f (inr (inr h)) = by_number_gt (x * P + u) (y * P + v) o (omega arith) ∙ sym (by_number_gt u v o h)

-- ---- what an answer says of the numbers
pub by_number_below : (x y : ℕ) (o : Ordering) → by_number x y o ≡ Less → (x < y) ⊎ ((x ≡ y) × (o ≡ Less))
by_number_below x y o e =
    ⊎_elim inl
    (⊎_elim (λ h. inr (h, sym (by_number_eq x y o h) ∙ e)) (λ h. below_above (sym e ∙ by_number_gt x y o h)))
    (tri x y)

pub by_number_same : (x y : ℕ) (o : Ordering) → by_number x y o ≡ Equal → (x ≡ y) × (o ≡ Equal)
by_number_same x y o e =
    ⊎_elim (λ h. below_same (sym (by_number-lt x y o h) ∙ e))
    (⊎_elim (λ h. (h, sym (by_number_eq x y o h) ∙ e)) (λ h. same_above (sym e ∙ by_number_gt x y o h)))
    (tri x y)
