-- The page is fit and the half with the header goes on, or the call is refused as the page is.
use Rattle.std.proofs.Common.{sym, ◌∙◌}
use Rattle.verdict.proofs.Fitness.{fitted}
use Rattle.paper.proofs.Holding.{handed_on}
use Rattle.edit.proofs.Testing.{tested}
use Rattle.edit.proofs.Changes.{change-refused, change-fitted}
use Rattle.octets.proofs.Clauses.{named_value_p_after}
use Rattle.edit.proofs.change.change_key.Goals as goal

pub returns-in_err-h : goal.returns-in_err-h
returns-in_err-h c = rw (handed_on c.from_residual.result _ c.from_residual.ensures.1) (named_value_p_after (change-refused _ _ _ _ _ (sym c.admit_fit.ensures ∙ c.in_err-h.was)))

pub change_fit-requires : goal.change_fit-requires
change_fit-requires c =
    let told = sym c.admit_fit.ensures ∙ c.in_ok-h.was in
    (tested _ _ _ _ told, (fitted _ _ _ _ told).header)

pub returns : goal.returns
returns c =
    let whole = change-fitted _ _ _ _ _ (sym c.admit_fit.ensures ∙ c.in_ok-h.was) in
    record { value = c.change_fit.ensures.value ∙ whole.0; p_after = c.change_fit.ensures.p_after ∙ whole.1 }
