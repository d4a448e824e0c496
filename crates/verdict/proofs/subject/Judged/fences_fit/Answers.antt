use Rattle.verdict.specs.Tally.{fences_fit_with}
use Rattle.verdict.proofs.subject.Judged.fences_fit.Goals as goal

pub returns : goal.returns
unfolding fences_fit_with
returns c = c.lower_below.ensures
