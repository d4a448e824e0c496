-- Both numbers are those of the definition.
use Rattle.std.proofs.Common.{refl}
use Rattle.paper.specs.Verdicts.{prefix_piece}
use Rattle.verdict.proofs.pieces.prefix.Goals as goal

pub returns : goal.returns
unfolding prefix_piece
returns c = (rw c.body_bytes.ensures.0, refl)
