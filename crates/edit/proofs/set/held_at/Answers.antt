-- The value of the slot that was read, against the expected one.
use Rattle.std.proofs.Common.{arith}
use Rattle.write.proofs.Rekeys.{value-within}
use Rattle.edit.proofs.set.held_at.Goals as goal

pub read_value-v-requires : goal.read_value-v-requires
read_value-v-requires c =
    omega (
      arith,
      c.requires.0,
      value-within c.args.width c.args.p.now c.args.i c.read_slot-s.result c.value_at.result c.read_slot-s.ensures c.value_at.ensures c.requires.3,
    )
