-- A refusal keeps the page; where nothing was refused the tests held, and the slot takes the suffix.
use Rattle.std.proofs.Common.{sym, ◌∙◌}
use Rattle.paper.proofs.Holding.{handed_on}
use Rattle.edit.proofs.Changes.{change-kept, change-seat, change-written}
use Rattle.octets.proofs.Clauses.{named_value_p_after}
use Rattle.edit.proofs.change.change_fit.Goals as goal

pub returns-in_err-judge : goal.returns-in_err-judge
returns-in_err-judge c = rw (handed_on c.from_residual.result _ c.from_residual.ensures.1) (record { value = sym c.in_err-judge.was ∙ c.judge.ensures; p_after = change-kept _ _ _ _ _ (sym c.judge.ensures ∙ c.in_err-judge.was) })

pub change_at-requires : goal.change_at-requires
change_at-requires c =
    let pre = c.requires in
    change-seat _ _ _ _ (sym c.judge.ensures ∙ c.in_ok-judge.was) _ c.suffix-suffix.ensures _ pre.0.size pre.0.width pre.0.verdict pre.1 pre.0.key_length

pub returns : goal.returns
returns c = named_value_p_after (change-written _ _ _ _ (sym c.judge.ensures ∙ c.in_ok-judge.was) _ c.suffix-suffix.ensures _ c.change_at.ensures)
