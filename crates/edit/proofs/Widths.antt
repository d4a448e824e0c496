-- A known width, and the values that it holds. Assumes nothing.
use Rattle.std.proofs.Common.{◌≡◌, true, ℕ, ◌^◌, ◌≤◌, ◌<◌, arith, eqb-true, eq-eqb, ne_eqb, lt-ltb, le-ltb, ltb, eqb}
use native.Mathlib.Decide.{dec_le}
use Rattle.paper.specs.Calls.{is_width, fits_width}

-- above 1 it is 8
eight : (w : ℕ) → is_width w ≡ true → (w ≡ 0 → ⊥) → (w ≡ 1 → ⊥) → w ≡ 8
unfolding is_width
eight w e f g = eqb-true w 8 (rw (ne_eqb w 0 f, ne_eqb w 1 g) at e)

pub width-most : (w : ℕ) → is_width w ≡ true → w ≤ 8
width-most w e = go (dec_le w 1)
  where
    go : Dec (w ≤ 1) → w ≤ 8
    go (yes h) = omega arith
    go (no h) = omega (arith, eight w e (λ k. omega arith) (λ k. omega arith))

module _ (w v : ℕ) where
  pub fits-none : w ≡ 0 → eqb v 0 ≡ fits_width w v
  unfolding fits_width
  fits-none e = rw e (go (dec_le v 0))
    where
      go : Dec (v ≤ 0) → eqb v 0 ≡ ltb v (256 ^ 0)
      go (yes h) = rw (eq-eqb v 0 (omega arith), lt-ltb v (256 ^ 0) (omega arith))
      go (no h) = rw (ne_eqb v 0 (λ k. omega arith), le-ltb v (256 ^ 0) (omega arith))

  pub fits_byte : w ≡ 1 → ltb v 256 ≡ fits_width w v
  unfolding fits_width
  fits_byte e = rw e

  pub fits_all : is_width w ≡ true → (w ≡ 0 → ⊥) → (w ≡ 1 → ⊥) → v < 2 ^ 64 → fits_width w v ≡ true
  unfolding fits_width
  fits_all e f g l = rw (eight w e f g) (lt-ltb v (256 ^ 8) (omega arith))

pub ruleset widths = (fits-none, fits_byte, fits_all)
