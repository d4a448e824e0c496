-- The neighbours of a slot by their suffixes, and a key change on a page that is fit.
use Rattle.std.specs.Prelude.{ℕ, ◌+◌, ◌-◌, ◌<◌, Bool, true, List, [], ◌∷◌, leb, eqb, length, Result, Ok, Err, ⊤}
use Rattle.keys.specs.Choice.{pick, both}
use Rattle.paper.specs.Lists.{less}
use Rattle.paper.specs.Page.{slot_of, suffix_of, frame_of}
use Rattle.paper.specs.Listing.{listing, keys}
use Rattle.paper.specs.Refusals.{Check, check, judge}
use Rattle.paper.specs.Edits.{key_changed}
use Rattle.paper.specs.Searches.{probe_suffix}
use Rattle.paper.specs.Calls.{prefix_held, inside_fences, slot_there, between, room_for_key}
use Rattle.paper.specs.declared.refusal.Refusal.TheVariants.{Neighbours, NoRoom}
use Rattle.search.specs.Fence.{LongLies}
use Rattle.paper.specs.declared.refusal.Refusal.{Refusal}

-- the long suffixes of the first n slots lie within the page
abbrev pub Lying : List ℕ → ℕ → Type 0
Lying p n = (j : ℕ) → j < n → LongLies (length p) (slot_of p j)

-- ---- 12 by suffixes: x against the slots before and after slot i of n
unfoldable pub above_previous : List ℕ → ℕ → List ℕ → Bool
above_previous p i x = pick (eqb i 0) true (less (suffix_of p (slot_of p (i - 1))) x)

unfoldable pub below_next : List ℕ → ℕ → ℕ → List ℕ → Bool
below_next p n i x = pick (leb n (i + 1)) true (less x (suffix_of p (slot_of p (i + 1))))

unfoldable pub between_by : List ℕ → ℕ → ℕ → List ℕ → Bool
between_by p n i x = both (above_previous p i x) (below_next p n i x)

-- ---- the call's half after the fit test: 8, 9, 10, 12, 13
abbrev pub change_tests : ℕ → List ℕ → ℕ → List ℕ → List Check
change_tests w p i k =
    prefix_held p k
    ∷ inside_fences p k
    ∷ slot_there p i
    ∷ check (between (keys (listing w p)) i k) Neighbours
    ∷ check (room_for_key w p i (probe_suffix (frame_of p) k)) NoRoom
    ∷ []

unfoldable pub change_with : ℕ → List ℕ → ℕ → List ℕ → Result ⊤ Refusal
change_with w p i k = judge (change_tests w p i k) (Ok tt) Err

unfoldable pub page_with : ℕ → List ℕ → ℕ → List ℕ → List ℕ
page_with w p i k = judge (change_tests w p i k) (key_changed w p i (probe_suffix (frame_of p) k)) (λ r. p)
