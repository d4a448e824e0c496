-- The first record of a buffer of whole ones lies within it.
use Rattle.std.proofs.Common.{arith}
use Rattle.filing.proofs.Placed.{some-told, first-held}
use Rattle.filing.proofs.records.Records.first_length.Goals as goal

pub read_u32-requires : goal.read_u32-requires
read_u32-requires c = omega (arith, first-held c.args.self.now.left.now c.args.self.now.whole (some-told _ _ c.is_empty.ensures c.if-is_empty.false))
