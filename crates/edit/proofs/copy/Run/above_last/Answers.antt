-- What is left of both pieces is no more than a slot can hold.
use Rattle.edit.proofs.RunKeys.{key_most}
use Rattle.edit.proofs.copy.Run.above_last.Goals as goal

pub cut-rest-requires : goal.cut-rest-requires
cut-rest-requires c = let run = c.args.self.now in key_most _ _ run.shown _ c.requires.0 _ c.read_slot-s.ensures _ c.suffix-suffix.ensures _
