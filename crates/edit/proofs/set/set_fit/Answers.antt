-- A refusal leaves the page; a slot that was found has its value there, and that value is the expected one.
use Rattle.std.proofs.Common.{sym, ◌∙◌, rules}
use Rattle.paper.proofs.Holding.{handed_on}
use Rattle.edit.proofs.Replaced.{set-kept, set-asked, set-done}
use Rattle.octets.proofs.Clauses.{named_value_p_after}
use Rattle.edit.proofs.set.set_fit.Goals as goal

pub returns-in_err-i : goal.returns-in_err-i
returns-in_err-i c = rw (handed_on c.from_residual.result _ c.from_residual.ensures.1) (named_value_p_after (set-kept _ _ _ _ _ _ (sym c.find_held.ensures ∙ c.in_err-i.was)))

pub set_at-requires : goal.set_at-requires
set_at-requires c =
    set-asked _ _ _ _ _ _ (sym c.find_held.ensures ∙ c.in_ok-i.was) c.requires
    (search rules)

pub returns : goal.returns
returns c = named_value_p_after (set-done _ _ _ _ _ _ (sym c.find_held.ensures ∙ c.in_ok-i.was) _ c.set_at.ensures)
