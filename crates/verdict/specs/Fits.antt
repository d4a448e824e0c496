-- Both verdicts by a header that was read, and a page that is fit.
use Rattle.std.specs.Prelude.{⊤, ℕ, Bool, not, List, [], ◌∷◌, leb, eqb, Result, Ok, Err}
use Rattle.keys.specs.Choice.{both}
use Rattle.paper.specs.Lists.{every}
use Rattle.paper.specs.Page.{header_of}
use Rattle.paper.specs.Verdicts.{first_broken}
use Rattle.paper.specs.Refusals.{Check, check, judge}
use Rattle.paper.specs.Calls.{page_length, width_known, verdict_checks, is_fit}
use Rattle.paper.specs.declared.page.Header.{Header}
use Rattle.paper.specs.declared.refusal.Refusal.TheVariants.{KeyLength}
use Rattle.node.specs.Header.{rules_of}
use Rattle.verdict.specs.Pieces.{held_with, disjoint_with}
use Rattle.verdict.specs.Tally.{tally_of, fences_rise_with, fences_faithful_with, fences_fit_with, effective_with, hints_fresh_with}
use Rattle.verdict.specs.declared.tally.Tally.{Tally}
use Rattle.paper.specs.declared.refusal.Refusal.{Refusal}

-- 1, 2: what every verdict is asked with
unfoldable pub judgeable_of : ℕ → List ℕ → Result ⊤ Refusal
judgeable_of w p = judge (verdict_checks w p) (Ok tt) Err

-- U4 to U9, t being the tally of all entries
abbrev pub key_rules : List ℕ → Header → Tally → List Bool
key_rules p h t =
    both (fences_faithful_with p h) t.faithful
    ∷ fences_fit_with p h
    ∷ t.inside
    ∷ t.rising
    ∷ effective_with h t.needs
    ∷ hints_fresh_with p h
    ∷ []

unfoldable pub keys_with : ℕ → List ℕ → Header → ℕ
keys_with w p h = first_broken 4 (key_rules p h (tally_of w p h h.count))

-- "fit verdict: 0, or the first rule broken"
unfoldable pub fit_with : ℕ → List ℕ → Header → ℕ
fit_with w p h = first_broken 1 (rules_of h ∷ held_with w p h ∷ disjoint_with w p h ∷ key_rules p h (tally_of w p h h.count))

-- an empty leaf
unfoldable pub empty_leaf_with : Header → Bool
empty_leaf_with h = both (eqb h.height 0) (eqb h.count 0)

-- "the header rules with an empty leaf refused, U2, U3, lower < upper where the upper slot isn't empty, U6 and U7"
unfoldable pub order_with : ℕ → List ℕ → Header → Bool
order_with w p h = let t = tally_of w p h h.count in every (fences_rise_with p h ∷ t.inside ∷ t.rising ∷ [])

unfoldable pub layout_with : ℕ → List ℕ → Header → Bool
layout_with w p h =
    every (rules_of h ∷ not (empty_leaf_with h) ∷ held_with w p h ∷ disjoint_with w p h ∷ order_with w p h ∷ [])

-- ---- a page that is fit: its header, or 5
unfoldable pub fit_header_of : ℕ → List ℕ → Result Header Refusal
fit_header_of w p = judge (is_fit w p ∷ []) (Ok (header_of p)) Err

-- 1, 2, 3, 5, of a key of n bytes
abbrev pub fit_checks : ℕ → List ℕ → ℕ → List Check
fit_checks w p n = page_length p ∷ width_known w ∷ check (leb n 65535) KeyLength ∷ is_fit w p ∷ []

unfoldable pub fit_admit_of : ℕ → List ℕ → ℕ → Result Header Refusal
fit_admit_of w p n = judge (fit_checks w p n) (Ok (header_of p)) Err
