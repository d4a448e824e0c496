-- The heads that the suffixes have against the stored ones.
use Rattle.verdict.proofs.Ruled.{fences-true}
use Rattle.verdict.proofs.subject.Judged.fences_faithful.Goals as goal

pub returns : goal.returns
returns c = fences-true _ _ _ _ c.fences-fences.ensures.low c.fences-fences.ensures.high
