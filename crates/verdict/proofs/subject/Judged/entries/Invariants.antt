-- The entries before i were swept: `swept-more` is a turn.
use Rattle.std.proofs.Common.{◌≡◌}
use Rattle.verdict.specs.Sweep.{HeadBefore, Swept}
use Rattle.verdict.proofs.subject.Judged.entries.Given as goal

abbrev pub invariant-loop-i : goal.invariant-loop-i
invariant-loop-i g l =
    record {
      origin : l.starts.origin ≡ l.initial.starts.origin;
      swept : Swept l.self.width l.self.page.now l.self.header l.starts.origin l.i l.needs l.starts.cells;
      before : HeadBefore l.self.page.now l.i l.last;
    }
