-- Four fields changed one after the other are the header with the numbers of an entry more.
use Rattle.write.proofs.Writes.{filed-is}
use Rattle.octets.proofs.Clauses.{named_value_count_value}
use Rattle.write.proofs.numbers.filed.Goals as goal

pub returns : goal.returns
returns c =
    named_value_count_value (filed-is c.args.width c.args.h c.args.len _ c.body_bytes.ensures.0 c.requires.0 _ _ _ _ c.with_count.ensures
    c.with_start.ensures c.with_end.ensures c.with_effective.ensures)
