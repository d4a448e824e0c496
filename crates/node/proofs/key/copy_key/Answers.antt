-- The page's tests, then the slot's, then the length of its key against the buffer's; the bytes are those of `put_key`, or as they were.
use Rattle.std.proofs.Common.{sym, ◌∙◌}
use Rattle.node.proofs.Entries.{open-refused}
use Rattle.node.proofs.Copies.{copy-short, copy_done, copy_shut}
use Rattle.octets.proofs.Clauses.{named_value_out_after}
use Rattle.paper.specs.Refusals.{refusal_of}
use Rattle.paper.proofs.Holding.{handed_on}
use Rattle.node.proofs.key.copy_key.Goals as goal

pub returns-in_err-admit : goal.returns-in_err-admit
returns-in_err-admit c = rw (handed_on c.from_residual.result _ c.from_residual.ensures.1) (named_value_out_after (copy_shut _ _ _ _ _ (open-refused _ _ _ _ (sym c.admit.ensures ∙ c.in_err-admit.was))))

pub returns-in_default : goal.returns-in_default
unfolding refusal_of
returns-in_default c =
    let told = c.in_default.is in
    rw (c.refusal_of.ensures, told) (named_value_out_after (copy_shut _ _ _ _ _ (sym c.open_entry-read.ensures ∙ told)))

pub returns-then-out-n : goal.returns-then-out-n
returns-then-out-n c = named_value_out_after (copy-short _ _ _ _ (sym c.open_entry-read.ensures ∙ c.in-Ok.is) _ c.read_u16-prefix_len.ensures _ _ c.key_len-n.ensures c.if-out-n.true)

pub returns : goal.returns
returns c =
    rw c.put_key.ensures
    (named_value_out_after (copy_done _ _ _ _ (sym c.open_entry-read.ensures ∙ c.in-Ok.is) _ c.read_u16-prefix_len.ensures _ _ c.key_len-n.ensures c.if-out-n.false))
