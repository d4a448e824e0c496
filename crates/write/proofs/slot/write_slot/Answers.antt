-- Three numbers side by side are the slot's eight bytes.
use Rattle.write.proofs.Writes.{slot_written}
use Rattle.write.proofs.slot.write_slot.Goals as goal

pub returns : goal.returns
returns c = rw (c.write_u32.ensures, c.write_u16-2.ensures, c.write_u16.ensures) (slot_written _ _ _)
