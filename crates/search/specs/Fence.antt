-- A probe's suffix against the fences of a header that was read.
use Rattle.std.specs.Prelude.{ℕ, ◌+◌, ◌≤◌, ◌<◌, Bool, true, not, List, eqb}
use Rattle.keys.specs.Choice.{pick, both}
use Rattle.paper.specs.Lists.{less}
use Rattle.paper.specs.Page.{suffix_of}
use Rattle.paper.specs.declared.page.Slot.{Slot}
use Rattle.paper.specs.declared.page.Header.{Header}

-- a long suffix lies within a page of n bytes
abbrev pub LongLies : ℕ → Slot → Type 0
LongLies n s = 4 < s.len → 96 + s.offset + s.len ≤ n

-- "lower fence included, upper excluded"; an upper slot of length 0 bounds nothing
unfoldable pub inside_by : List ℕ → Header → List ℕ → Bool
inside_by p h x = both (not (less x (suffix_of p h.lower))) (pick (eqb h.upper.len 0) true (less x (suffix_of p h.upper)))
