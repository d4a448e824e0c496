-- A page on which records may be filed without another test of fit.
use Rattle.std.specs.Prelude.{◌≡◌, true, List, ℕ, length}
use Rattle.paper.specs.Verdicts.{fit_of}
use Rattle.paper.specs.Calls.{is_width}

-- 1, 2 and 5 hold of it
pub record Standing (w : ℕ) (p : List ℕ) : Type 0 where
  pub size : length p ≡ 16384
  pub width : is_width w ≡ true
  pub verdict : fit_of w p ≡ 0
