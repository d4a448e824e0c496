-- What a fit verdict of 0 says, and what gives it. Assumes nothing.
use Rattle.std.proofs.Common.{◌≡◌, refl, Bool, true, false, List, ℕ, eqb-true, eq-eqb, eqb, length, Ok, Err}
use Rattle.keys.specs.Choice.{pick}
use Rattle.paper.specs.Verdicts.{fit_of}
use Rattle.paper.specs.Refusals.{judge}
use Rattle.paper.specs.Calls.{is_width, fit_verdict}
use Rattle.paper.specs.declared.refusal.Refusal.TheVariants.{PageLength, Width}

pub size_test : (p : List ℕ) → length p ≡ 16384 → eqb (length p) 16384 ≡ true
size_test p e = eq-eqb (length p) 16384 e

-- what verdict 0 says
pub record Passed (w : ℕ) (p : List ℕ) : Type 0 where
  pub size : length p ≡ 16384
  pub width : is_width w ≡ true
  pub fit : fit_of w p ≡ 0

pub passed-fit : (w : ℕ) (p : List ℕ) → fit_verdict w p ≡ Ok 0 → Passed w p
unfolding fit_verdict judge
passed-fit w p e = go (eqb (length p) 16384) refl (is_width w) refl e
  where
    go : (a : Bool) → eqb (length p) 16384 ≡ a → (b : Bool) → is_width w ≡ b
        → pick a (pick b (Ok (fit_of w p)) (Err Width)) (Err PageLength) ≡ Ok 0 → Passed w p
    go true x true y e = record { size = eqb-true (length p) 16384 x; width = y; fit = cc }
    go true x false y e = cc
    go false x b y e = cc

pub fit_passed : (w : ℕ) (p : List ℕ) → Passed w p → fit_verdict w p ≡ Ok 0
unfolding fit_verdict judge
fit_passed w p P = let a = size_test p P.size in rw (a, P.width, P.fit)
