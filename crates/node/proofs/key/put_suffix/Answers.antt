-- A suffix that is long lies where its payload does.
use Rattle.node.proofs.Spelling.{suffix-room}
use Rattle.node.proofs.key.put_suffix.Goals as goal

pub suffix-requires : goal.suffix-requires
suffix-requires c = (λ l. suffix-room _ _ _ l c.requires.1, c.head_bytes-four.ensures)
