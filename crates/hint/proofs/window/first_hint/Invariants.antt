-- The loop keeps the first hint that passes of those from i on. A turn finds one sooner or leaves it: `first-here`, `first-later`.
use Rattle.std.proofs.Common.{◌≡◌, Bool, ℕ, ◌+◌, ◌≤◌, drop}
use Rattle.paper.specs.Hints.{first_hint}
use Rattle.hint.specs.Passing.{Decides}
use Rattle.hint.proofs.window.first_hint.Given as goal

abbrev pub invariant-loop-i : goal.invariant-loop-i
invariant-loop-i g l =
    (l.first ≤ 8)
    × ((test : ℕ → Bool) → Decides (goal.F-post g l.passes) test → l.first ≡ l.i + first_hint test (drop l.i l.hints))
