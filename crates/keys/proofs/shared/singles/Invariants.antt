-- The loop keeps that the first i bytes agree.
use Rattle.std.proofs.Common.{◌≤◌}
use Rattle.keys.specs.Keys.{common}
use Rattle.keys.proofs.shared.singles.Given as goal

abbrev pub invariant-loop-i : goal.invariant-loop-i
invariant-loop-i l = l.i ≤ common l.a l.b
