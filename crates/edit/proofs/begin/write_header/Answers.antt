-- The fields of each part one after the other; a slot's three are its eight bytes.
use Rattle.paper.specs.Edits.{put_all}
use Rattle.write.proofs.Writes.{slot_written}
use Rattle.edit.specs.Begins.{slot_fields, front_fields, tail_fields, header_fields}
use Rattle.edit.proofs.begin.write_header.Goals as goal

pub returns : goal.returns
unfolding put_all slot_fields front_fields tail_fields header_fields
returns c = rw (c.write_tail.ensures, c.write_slot-2.ensures, c.write_u64.ensures, c.write_slot.ensures, c.write_front.ensures, slot_written, slot_written)
