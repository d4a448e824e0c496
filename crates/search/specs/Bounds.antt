-- The bounds by a header that was read.
use Rattle.std.specs.Prelude.{ℕ, Bool, List, Result}
use Rattle.keys.specs.Choice.{pick}
use Rattle.keys.specs.Keys.{head_of}
use Rattle.paper.specs.Page.{frame_of, hints_of}
use Rattle.paper.specs.Hints.{in_use, window_low, window_high}
use Rattle.paper.specs.Searches.{probe_suffix, bound_by}
use Rattle.paper.specs.declared.page.Header.{Header}
use Rattle.paper.specs.declared.refusal.Refusal.{Refusal}
use Rattle.search.specs.Probe.{class_by}
use Rattle.search.specs.Slot.{halved}
use Rattle.search.specs.declared.seek.Window.{Window}

-- the slots to search for a head
unfoldable pub window_of : List ℕ → ℕ → ℕ → ℕ → Window
window_of p flag count head =
    pick (in_use flag count) (record { low = window_low (hints_of p) head count; high = window_high (hints_of p) head count }) (record { low = 0; high = count })

-- the bound of the suffix s
unfoldable pub searched : Bool → ℕ → List ℕ → Header → List ℕ → Result ℕ Refusal
searched u w p h s = let v = window_of p h.flag h.count (head_of s) in halved u w p h.end s v.low v.high

-- the bound of the key k
unfoldable pub bound_with : Bool → ℕ → List ℕ → Header → List ℕ → Result ℕ Refusal
bound_with u w p h k = bound_by (class_by p h.prefix_len k) h.count (searched u w p h (probe_suffix (frame_of p) k))
