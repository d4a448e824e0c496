-- The end of payloads is read where the header has it.
use Rattle.search.proofs.Asked.{end_read}
use Rattle.search.proofs.compare.compare_slot.Goals as goal

pub invariant_of-meet_alone-clause-begin : goal.invariant_of-meet_alone-clause-begin
invariant_of-meet_alone-clause-begin c = end_read _ _ c.read_u16.ensures
