-- The slot after is read where it lies.
use Rattle.std.proofs.Common.{arith}
use Rattle.edit.proofs.Neighbouring.{lying}
use Rattle.edit.proofs.neighbours.below_next.Goals as goal

pub below_fence-requires : goal.below_fence-requires
below_fence-requires c = lying _ _ _ _ c.requires.2 (omega (arith, c.if-count-i.false)) c.read_slot.ensures
