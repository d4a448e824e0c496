-- A suffix that the body holds is no longer than a slot can say.
use Rattle.std.proofs.Common.{arith, length}
use Rattle.paper.proofs.Same.{le-body_bytes}
use Rattle.write.proofs.insert.file_at.Goals as goal

pub whole-requires : goal.whole-requires
whole-requires c = omega (arith, c.requires.room, c.requires.top, le-body_bytes 4 (length c.args.suffix.now))
