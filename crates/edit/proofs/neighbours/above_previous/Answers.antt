-- The slot before is read where it lies.
use Rattle.std.proofs.Common.{arith}
use Rattle.edit.proofs.Neighbouring.{lying}
use Rattle.edit.proofs.neighbours.above_previous.Goals as goal

pub slot_below-requires : goal.slot_below-requires
slot_below-requires c = lying _ _ _ _ c.requires.1 (omega (arith, c.if-i-eq0.false)) c.read_slot.ensures
