-- The sum of the needs, and what a sweep shows of the rest, are the tally.
use Rattle.std.proofs.Common.{sym}
use Rattle.verdict.proofs.Sweeping.{tally-swept}
use Rattle.verdict.proofs.Fitting.{weighed-tally}
use Rattle.verdict.proofs.subject.Judged.sweep.Goals as goal

pub returns : goal.returns
returns c =
    let s = c.args.self.now in
    let sound = c.in_ok-needs.ensures in
    sym (weighed-tally s.width s.page.now s.header sound.held sound.disjoint _ (tally-swept _ _ _ _ _ sound c.ends_fenced.ensures))
