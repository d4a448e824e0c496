-- The four parts of the tally, each with what entry `i` adds to it.
use Rattle.std.proofs.Common.{arith}
use Rattle.verdict.proofs.Tallied.{tally-turn, needs_most, last-honest}
use Rattle.verdict.proofs.subject.Judged.with_entry.Goals as goal

pub overflow_add-result-3 : goal.overflow_add-result-3
overflow_add-result-3 c = omega (arith, needs_most _ _ c.args.self.now.bytes _ _ _ (omega arith) c.requires.number c.requires.tally, c.suffix_bytes.ensures.1)

pub returns : goal.returns
returns c =
    tally-turn _ c.args.self.now.bytes _ _ _ _ _ _ _ c.requires _ _ _ _ c.read_slot-stored.ensures c.fenced.ensures
    c.follows.ensures c.suffix_bytes.ensures.0

pub follows-requires : goal.follows-requires
follows-requires c = (last-honest _ _ _ c.requires.before, c.requires.honest_slot)
