-- The first i blocks of 16 bytes are common; one that agrees is 16 more. What is left at the end are the last 16.
use Rattle.std.proofs.Common.{◌*◌, ◌≤◌}
use Rattle.keys.specs.Keys.{common}
use Rattle.verdict.proofs.rise.fork.Given as goal

abbrev pub invariant-loop-i : goal.invariant-loop-i
invariant-loop-i l = 16 * l.i ≤ common l.a l.b
