-- The sum of the definition.
use Rattle.verdict.proofs.Ruled.{effective_is}
use Rattle.verdict.proofs.subject.Judged.effective_right.Goals as goal

pub returns : goal.returns
returns c = effective_is _ _ _ c.frame_bytes-fences.ensures.0
