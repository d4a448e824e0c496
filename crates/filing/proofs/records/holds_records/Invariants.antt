-- Where the records from the place reached end is where all of them end: one law a turn, one for each way out.
use Rattle.std.proofs.Common.{◌≡◌, ◌-◌, ◌≤◌, length}
use Rattle.filing.specs.Batches.{end_from}
use Rattle.filing.proofs.records.holds_records.Given as goal

abbrev pub invariant-loop-at : goal.invariant-loop-at
invariant-loop-at l = (l.at ≤ length l.b) × (end_from (length l.b) l.b 0 ≡ end_from (length l.b - l.at) l.b l.at)

abbrev pub decreases-loop-at : goal.decreases-loop-at
decreases-loop-at l = length l.b - l.at
