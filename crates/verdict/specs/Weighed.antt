-- What U2 and U3 come to, with the tally of the entries where both hold; and the first rule broken, as code answers it.
use Rattle.std.specs.Prelude.{ℕ, suc, ◌≡◌, Bool, List, [], ◌∷◌, Option, None, Some, Result, Ok, Err}
use Rattle.keys.specs.Choice.{pick}
use Rattle.paper.specs.declared.page.Header.{Header}
use Rattle.node.specs.Header.{rules_of}
use Rattle.verdict.specs.Pieces.{held_with, disjoint_with}
use Rattle.verdict.specs.Tally.{tally_of}
use Rattle.verdict.specs.Fits.{key_rules}
use Rattle.verdict.specs.declared.tally.Tally.{Tally}

-- 2 where U2 is broken, 3 where U3 is, else the tally of all entries
unfoldable pub weighed_with : ℕ → List ℕ → Header → Result Tally ℕ
weighed_with w p h = pick (held_with w p h) (pick (disjoint_with w p h) (Ok (tally_of w p h h.count)) (Err 3)) (Err 2)

abbrev pub Weighs : ℕ → List ℕ → Header → Tally → Type 0
Weighs w p h t = weighed_with w p h ≡ Ok t

-- the first test that does not hold, counted from n on
unfoldable pub first_rule : ℕ → List Bool → Option ℕ
first_rule n [] = None
first_rule n (u ∷ us) = pick u (first_rule (suc n) us) (Some n)

-- the first rule broken of a page with this header
unfoldable pub broken_with : ℕ → List ℕ → Header → Option ℕ
broken_with w p h = first_rule 1 (rules_of h ∷ held_with w p h ∷ disjoint_with w p h ∷ key_rules p h (tally_of w p h h.count))
