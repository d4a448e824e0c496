-- Suffix and value side by side are the payload.
use Rattle.write.proofs.Writes.{payload_written}
use Rattle.write.proofs.payload.write_payload.Goals as goal

pub returns : goal.returns
returns c = rw (c.write_value.ensures, c.write-n.ensures.part_after, c.write-n.ensures.value) (payload_written _ _ _ _)
