-- Both numbers are those of the definition.
use Rattle.std.proofs.Common.{refl}
use Rattle.paper.specs.Verdicts.{fence_piece}
use Rattle.verdict.proofs.pieces.fence.Goals as goal

pub returns : goal.returns
unfolding fence_piece
returns c = (refl, rw c.suffix_bytes-n.ensures.0)
