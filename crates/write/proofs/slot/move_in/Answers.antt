-- The move leaves the slot's own bytes free, the write fills them.
use Rattle.paper.specs.Edits.{slot_in}
use Rattle.write.proofs.slot.move_in.Goals as goal

pub returns : goal.returns
unfolding slot_in
returns c = rw (c.write_slot.ensures, c.move_up_8.ensures)
