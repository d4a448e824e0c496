-- No piece starts within the payloads before j: `lone-more` is a turn.
use Rattle.verdict.specs.Sweep.{AllLone}
use Rattle.verdict.proofs.subject.Judged.payloads_lone.Given as goal

abbrev pub invariant-loop-j : goal.invariant-loop-j
invariant-loop-j g l = AllLone l.self.width l.self.page.now l.self.header l.starts.origin 0 l.j l.starts.cells
