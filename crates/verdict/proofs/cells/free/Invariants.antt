-- The words before the i-th are free: `free-word` is a turn.
use Rattle.std.proofs.Common.{◌+◌, ◌*◌}
use Rattle.verdict.specs.Marks.{Free}
use Rattle.verdict.proofs.cells.free.Given as goal

abbrev pub invariant-loop-i : goal.invariant-loop-i
invariant-loop-i l = Free l.map l.a (l.a + 8 * l.i)
