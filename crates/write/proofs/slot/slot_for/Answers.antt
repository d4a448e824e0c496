-- The three fields of the slot.
use Rattle.paper.specs.Edits.{slot_for}
use Rattle.write.proofs.slot.slot_for.Goals as goal

pub returns : goal.returns
unfolding slot_for
returns c = cc
