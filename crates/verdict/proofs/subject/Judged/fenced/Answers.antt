-- Two comparisons, the second of which an empty upper fence makes true.
use Rattle.verdict.proofs.Tallied.{fenced-by}
use Rattle.verdict.proofs.subject.Judged.fenced.Goals as goal

pub returns : goal.returns
returns c = fenced-by _ _ _ _ _ _ c.requires.0 c.below.ensures c.below-2.ensures
