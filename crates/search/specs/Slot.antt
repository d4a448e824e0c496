-- A slot against a probe's suffix, and halving over slots, by numbers that the header gave.
use Rattle.std.specs.Prelude.{◌≡◌, ℕ, ◌-◌, ◌<◌, min, Bool, List, leb, ltb, Result, Ok, Err, Some, None, Option}
use Rattle.keys.specs.Choice.{pick}
use Rattle.keys.specs.Keys.{by_number}
use Rattle.paper.specs.Page.{slot_of}
use Rattle.paper.specs.Verdicts.{slot_payload, within}
use Rattle.paper.specs.Searches.{slot_meets, halving, turn}
use Rattle.paper.specs.Refusals.{judge}
use Rattle.paper.specs.declared.page.Slot.{Slot}
use Rattle.paper.specs.declared.refusal.Refusal.{Refusal}
use Rattle.paper.specs.declared.refusal.Refusal.TheVariants.{Payload}
use Rattle.node.specs.Admit.{slot_checks}
use Rattle.std.specs.declared.cmp.Ordering.{Ordering}
use Rattle.search.specs.declared.halve.Halved.{Halved}
use Rattle.std.specs.declared.cmp.Ordering.TheVariants.{Less, Equal, Greater}
use Rattle.search.specs.declared.halve.Halved.TheVariants.{Same as Halved-as-Same, Above as Halved-as-Above, Unmet as Halved-as-Unmet}

-- what heads and lengths say: of a slot, and a suffix of n bytes with that head
unfoldable pub rank_of : Slot → ℕ → ℕ → Option Ordering
rank_of s head n =
    pick (ltb s.head head) (Some Less)
    (pick (ltb head s.head) (Some Greater) (pick (leb (min s.len n) 4) (Some (by_number s.len n Equal)) None))

-- slot i of a page whose payloads lie from end on, against the suffix s
unfoldable pub met_at : ℕ → List ℕ → ℕ → List ℕ → ℕ → Result Ordering Refusal
met_at w p end s i = pick (within end (slot_payload w (slot_of p i))) (Ok (slot_meets p (slot_of p i) s)) (Err Payload)

-- the same of slot i of count, which may not be there
unfoldable pub met_alone : ℕ → List ℕ → ℕ → ℕ → List ℕ → ℕ → Result Ordering Refusal
met_alone w p count end s i = judge (slot_checks w p count end i) (Ok (slot_meets p (slot_of p i) s)) Err

-- the slots low..high halved; hi - lo halvings are enough
unfoldable pub halved : Bool → ℕ → List ℕ → ℕ → List ℕ → ℕ → ℕ → Result ℕ Refusal
halved u w p end s low high = halving (turn u) Ok (high - low) (met_at w p end s) low high

-- how halving ended: where, and how the slot there met the suffix s, if it was visited
abbrev pub Ends : Bool → ℕ → List ℕ → ℕ → List ℕ → ℕ → ℕ → Result Halved Refusal → Type 0
Ends u w p end s low high (Ok (Halved-as-Same i)) = (halved u w p end s low high ≡ Ok i) × (i < high) × (met_at w p end s i ≡ Ok Equal)
Ends u w p end s low high (Ok (Halved-as-Above i)) = (halved u w p end s low high ≡ Ok i) × (i < high) × (met_at w p end s i ≡ Ok Greater)
Ends u w p end s low high (Ok (Halved-as-Unmet i)) = halved u w p end s low high ≡ Ok i
Ends u w p end s low high (Err r) = halved u w p end s low high ≡ Err r
