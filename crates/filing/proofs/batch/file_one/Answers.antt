-- A key that is too long is refused; else the insert on a page that is fit is the call, and its page is fit again.
use Rattle.std.proofs.Common.{rules}
use Rattle.filing.proofs.Stands.{one-long, one-filed}
use Rattle.octets.proofs.Clauses.{named_value_p_after_standing}
use Rattle.filing.proofs.batch.file_one.Goals as goal

pub returns-then-key-gt65535 : goal.returns-then-key-gt65535
returns-then-key-gt65535 c = named_value_p_after_standing (one-long _ _ _ _ c.requires c.if-key-gt65535.true)

pub returns : goal.returns
returns c =
    named_value_p_after_standing (one-filed _ _ _ _ c.requires (search rules) (search rules) c.if-key-gt65535.false _
    c.insert_fit.ensures.value _ c.insert_fit.ensures.p_after)
