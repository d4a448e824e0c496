-- The end of payloads is read where the header has it.
use Rattle.search.proofs.Asked.{end_read}
use Rattle.search.proofs.find.find_at.Goals as goal

pub invariant_of-slots : goal.invariant_of-slots
invariant_of-slots c = record { size = c.requires.0; fit = c.requires.1; begin = end_read _ _ c.read_u16.ensures }
