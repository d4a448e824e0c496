-- No piece starts within the pieces before j, from the prefix on: `lone-more` is a turn.
use Rattle.verdict.specs.Sweep.{AllLone}
use Rattle.verdict.proofs.subject.Judged.frame_lone.Given as goal

abbrev pub invariant-loop-j : goal.invariant-loop-j
invariant-loop-j g l = AllLone l.self.width l.self.page.now l.self.header l.starts.origin l.self.header.count l.j l.starts.cells
