-- The tally so far, and the slot that was weighed last: one law a turn.
use Rattle.std.proofs.Common.{◌≡◌}
use Rattle.verdict.specs.Honest.{LastIs}
use Rattle.verdict.specs.Tally.{tally_of}
use Rattle.verdict.proofs.subject.Judged.tally_entries.Given as goal

abbrev pub invariant-loop-i : goal.invariant-loop-i
invariant-loop-i l =
    record {
      tally : l.t ≡ tally_of l.self.width l.self.page.now l.self.header l.i;
      before : LastIs l.self.page.now l.i l.last;
    }
