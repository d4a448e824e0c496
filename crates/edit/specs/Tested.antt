-- What is known of a page that passed an edit's first tests.
use Rattle.std.specs.Prelude.{◌≡◌, true, List, ℕ, ◌≤◌, length}
use Rattle.paper.specs.Verdicts.{fit_of}
use Rattle.paper.specs.Calls.{is_width}

-- 1, 2, 3 and 5 hold of the page p, of the width w and of a key of n bytes
pub record Tested (w : ℕ) (p : List ℕ) (n : ℕ) : Type 0 where
  pub size : length p ≡ 16384
  pub width : is_width w ≡ true
  pub key_length : n ≤ 65535
  pub verdict : fit_of w p ≡ 0
