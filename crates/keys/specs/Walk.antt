-- Two keys walked side by side: what the inner functions of a comparison ask of each other.
use Rattle.std.specs.Prelude.{ℕ, ◌+◌, ◌≤◌, ◌<◌, ◌⊎◌, List, length}
use Rattle.keys.specs.Keys.{common}

-- n is the length of the shorter key, and the two agree before from
pub record Reach (a b : List ℕ) (from n : ℕ) : Type 0 where
  pub in_a : n ≤ length a
  pub in_b : n ≤ length b
  pub ends : (length a ≤ n) ⊎ (length b ≤ n)
  pub started : from ≤ n
  pub alike : from ≤ common a b

-- the first difference lies in the w bytes from i on
pub record Near (a b : List ℕ) (i w : ℕ) : Type 0 where
  pub fits_a : i + w ≤ length a
  pub fits_b : i + w ≤ length b
  pub alike : i ≤ common a b
  pub differ : common a b < i + w
