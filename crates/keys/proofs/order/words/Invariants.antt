-- The loop keeps that the words before the k-th agree.
use Rattle.std.proofs.Common.{◌+◌, ◌*◌, ◌≤◌}
use Rattle.keys.specs.Keys.{common}
use Rattle.keys.proofs.order.words.Given as goal

abbrev pub invariant-loop-k : goal.invariant-loop-k
invariant-loop-k l = l.from + 8 * l.k ≤ common l.a l.b
