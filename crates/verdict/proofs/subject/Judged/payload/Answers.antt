-- The slot that was read is the page's, and its payload follows.
use Rattle.verdict.proofs.Pieced.{payload_is}
use Rattle.verdict.proofs.subject.Judged.payload.Goals as goal

pub returns : goal.returns
returns c = payload_is _ _ _ _ _ c.read_slot-s.ensures c.suffix_bytes-n.ensures.0
