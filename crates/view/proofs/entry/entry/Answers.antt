-- The page's tests, and the length of the key against the buffer's; and the value, read as every entry read reads it.
use Rattle.std.proofs.Common.{sym, ◌∙◌, arith}
use Rattle.paper.proofs.Holding.{handed_on}
use Rattle.view.proofs.Entering.{shown_none, kept_none, shown-short, kept-short, shown-done}
use Rattle.view.proofs.entry.entry.Goals as goal

pub returns-in_err-admit : goal.returns-in_err-admit
returns-in_err-admit c =
    let e = sym c.admit.ensures ∙ c.in_err-admit.was in
    rw (handed_on c.from_residual.result _ c.from_residual.ensures.1) (record { value = shown_none _ _ _ _ _ e; out_after = kept_none _ _ _ _ _ e })

pub returns-then-out-key_len : goal.returns-then-out-key_len
returns-then-out-key_len c =
    let e = sym c.open_entry-read.ensures ∙ c.in-Ok.is in
    record { value = shown-short _ _ _ _ _ e _ c.if-out-key_len.true (omega arith); out_after = kept-short _ _ _ _ _ e _ c.if-out-key_len.true (omega arith) }

pub returns-clause-value : goal.returns-clause-value
returns-clause-value c = shown-done _ _ _ _ _ (sym c.open_entry-read.ensures ∙ c.in-Ok.is) _ c.if-out-key_len.false (omega arith) _ _ c.read_value-value.ensures c.value_at.ensures
