-- The value's place is read off the slot, then its bytes are written.
use Rattle.std.proofs.Common.{arith}
use Rattle.paper.specs.Edits.{value_set}
use Rattle.paper.specs.Page.{slot_of}
use Rattle.write.proofs.Rekeys.{value-within}
use Rattle.write.proofs.set.set_at.Goals as goal

pub write_value-requires : goal.write_value-requires
write_value-requires c = omega (arith, c.requires.0, value-within c.args.width c.args.p.now c.args.i c.read_slot-s.result c.value_at.result c.read_slot-s.ensures c.value_at.ensures c.requires.2)

pub returns : goal.returns
unfolding value_set slot_of
returns c = rw (c.write_value.ensures, c.value_at.ensures, c.read_slot-s.ensures)
