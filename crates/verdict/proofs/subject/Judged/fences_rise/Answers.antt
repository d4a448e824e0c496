use Rattle.verdict.specs.Tally.{fences_rise_with}
use Rattle.verdict.proofs.subject.Judged.fences_rise.Goals as goal

pub returns : goal.returns
unfolding fences_rise_with
returns c = c.lower_below.ensures
