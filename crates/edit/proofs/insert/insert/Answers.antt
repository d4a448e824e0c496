-- The page is fit and the half after the test goes on, or the call is refused as the page is.
use Rattle.std.proofs.Common.{sym, ◌∙◌}
use Rattle.paper.proofs.Holding.{handed_on}
use Rattle.edit.proofs.Testing.{tested}
use Rattle.edit.proofs.Inserted.{insert-refused, insert-fitted}
use Rattle.octets.proofs.Clauses.{named_value_p_after}
use Rattle.edit.proofs.insert.insert.Goals as goal

pub returns-in_err-admit_fit : goal.returns-in_err-admit_fit
returns-in_err-admit_fit c = rw (handed_on c.from_residual.result _ c.from_residual.ensures.1) (named_value_p_after (insert-refused _ _ _ _ _ (sym c.admit_fit.ensures ∙ c.in_err-admit_fit.was)))

pub insert_fit-requires : goal.insert_fit-requires
insert_fit-requires c = tested _ _ _ _ (sym c.admit_fit.ensures ∙ c.in_ok-admit_fit.was)

pub returns : goal.returns
returns c =
    let told = sym c.admit_fit.ensures ∙ c.in_ok-admit_fit.was in
    record { value = c.insert_fit.ensures.value ∙ (insert-fitted _ _ _ _ _ told).0; p_after = c.insert_fit.ensures.p_after ∙ (insert-fitted _ _ _ _ _ told).1 }
