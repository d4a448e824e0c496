-- The end of payloads is read where the header has it.
use Rattle.search.proofs.Asked.{end_read}
use Rattle.search.proofs.bound.bound_at.Goals as goal

pub invariant_of-seek : goal.invariant_of-seek
invariant_of-seek c = record { size = c.requires.0; fit = c.requires.1; begin = end_read _ _ c.read_u16.ensures }
