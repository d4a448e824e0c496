-- The first rule broken: the first test that does not hold, its place among the tests, and the number that a verdict answers. Assumes nothing.
use Rattle.std.proofs.Common.{◌≡◌, refl, Bool, true, false, not, List, [], ◌∷◌, ℕ, suc, ◌+◌, ◌≤◌, arith, Option, None, Some, MatchOption}
use Rattle.std.specs.Option.{unwrap_or}
use Rattle.std.specs.List.{position}
use Rattle.paper.specs.Verdicts.{first_broken}
use Rattle.verdict.specs.Weighed.{first_rule}

-- as a verdict's number, 0 where all hold
pub first_number : (n : ℕ) (us : List Bool) → unwrap_or (first_rule n us) 0 ≡ first_broken n us
unfolding first_rule first_broken
first_number n [] = refl
first_number n (true ∷ us) = first_number (suc n) us
first_number n (false ∷ us) = refl

-- it is no number below the first
pub first_above : (n : ℕ) (us : List Bool) (r : ℕ) → first_rule n us ≡ Some r → n ≤ r
unfolding first_rule
first_above n [] r e = absurd (cc)
first_above n (true ∷ us) r e = let next = first_above (suc n) us r e in omega arith
first_above n (false ∷ us) r e = let q : n ≡ r = cc in omega arith

tests : (a b c d e f : Bool)
    → MatchOption (position not (a ∷ b ∷ c ∷ d ∷ e ∷ f ∷ [])) (None ≡ first_rule 4 (a ∷ b ∷ c ∷ d ∷ e ∷ f ∷ [])) (λ i. Some (4 + i) ≡ first_rule 4 (a ∷ b ∷ c ∷ d ∷ e ∷ f ∷ []))
unfolding first_rule
tests false b c d e f = refl
tests true false c d e f = refl
tests true true false d e f = refl
tests true true true false e f = refl
tests true true true true false f = refl
tests true true true true true false = refl
tests true true true true true true = refl

-- six tests by the place of the first that does not hold, where r is what a search for it answered
pub six_tests : (a b c d e f : Bool) (r : Option ℕ) → r ≡ position not (a ∷ b ∷ c ∷ d ∷ e ∷ f ∷ [])
    → MatchOption r (None ≡ first_rule 4 (a ∷ b ∷ c ∷ d ∷ e ∷ f ∷ [])) (λ i. Some (4 + i) ≡ first_rule 4 (a ∷ b ∷ c ∷ d ∷ e ∷ f ∷ []))
six_tests a b c d e f r q = rw q (tests a b c d e f)
