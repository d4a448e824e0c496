-- The loop keeps that the blocks before the k-th agree.
use Rattle.std.proofs.Common.{◌*◌, ◌≤◌}
use Rattle.keys.specs.Keys.{common}
use Rattle.keys.proofs.shared.blocks.Given as goal

abbrev pub invariant-loop-k : goal.invariant-loop-k
invariant-loop-k l = 32 * l.k ≤ common l.a l.b
