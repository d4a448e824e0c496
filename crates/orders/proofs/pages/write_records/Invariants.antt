-- A record takes at most 26 bytes, so that the loop keeps its place within 26 bytes for each one written.
use Rattle.std.proofs.Common.{◌*◌, ◌≤◌}
use Rattle.orders.proofs.pages.write_records.Given as goal

abbrev pub invariant-loop-i : goal.invariant-loop-i
invariant-loop-i l = l.at ≤ 26 * l.i
