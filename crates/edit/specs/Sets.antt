-- Set value on a page that is fit.
use Rattle.std.specs.Prelude.{ℕ, false, not, List, [], ◌∷◌, eqb, Result, Ok, Err}
use Rattle.octets.specs.Bytes.{le}
use Rattle.keys.specs.Choice.{pick, both}
use Rattle.paper.specs.Lists.{all, differ}
use Rattle.paper.specs.Page.{slot_of, value_at}
use Rattle.paper.specs.Listing.{listing, keys}
use Rattle.paper.specs.Refusals.{Check, check, judge}
use Rattle.paper.specs.Edits.{value_set}
use Rattle.paper.specs.Searches.{scan}
use Rattle.paper.specs.Calls.{fits_width, prefix_held, stored_value}
use Rattle.paper.specs.declared.refusal.Refusal.{Refusal}
use Rattle.paper.specs.declared.refusal.Refusal.TheVariants.{ValueRange, NotFound, OtherValue}

-- 7, 8, 17, 18
abbrev pub set_tests : ℕ → List ℕ → List ℕ → ℕ → ℕ → List Check
set_tests w p k expected new =
    check (both (fits_width w expected) (fits_width w new)) ValueRange
    ∷ prefix_held p k
    ∷ check (not (all (differ k) (keys (listing w p)))) NotFound
    ∷ check (eqb (stored_value w p k) expected) (OtherValue (stored_value w p k))
    ∷ []

-- the slot whose value is replaced, or the first of them that does not hold
unfoldable pub held_with : ℕ → List ℕ → List ℕ → ℕ → ℕ → Result ℕ Refusal
held_with w p k expected new = judge (set_tests w p k expected new) (Ok (scan false k (listing w p))) Err

-- 18 of slot i
unfoldable pub held_at : ℕ → List ℕ → ℕ → ℕ → Result ℕ Refusal
held_at w p i expected = let v = le w p (value_at (slot_of p i)) in pick (eqb v expected) (Ok i) (Err (OtherValue v))

-- the old value, and the page
unfoldable pub set_with : ℕ → List ℕ → List ℕ → ℕ → ℕ → Result ℕ Refusal
set_with w p k expected new = judge (set_tests w p k expected new) (Ok (stored_value w p k)) Err

unfoldable pub value_set_with : ℕ → List ℕ → List ℕ → ℕ → ℕ → List ℕ
value_set_with w p k expected new = judge (set_tests w p k expected new) (value_set w p (scan false k (listing w p)) new) (λ r. p)
