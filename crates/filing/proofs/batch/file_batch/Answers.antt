-- A cut buffer and a page that is refused are told at once; else the fold on a page that is fit is the call.
use Rattle.std.proofs.Common.{sym, ◌∙◌}
use Rattle.filing.proofs.Folds.{standing, batch-cut, batch-refused, batch-fitted}
use Rattle.octets.proofs.Clauses.{named_value_p_after}
use Rattle.filing.proofs.batch.file_batch.Goals as goal

pub returns-then-not-holds_records : goal.returns-then-not-holds_records
returns-then-not-holds_records c = named_value_p_after (batch-cut _ _ _ _ c.holds_records.ensures c.if-not-holds_records.true)

pub returns-in-Err : goal.returns-in-Err
returns-in-Err c =
    named_value_p_after (batch-refused _ _ _ _ c.holds_records.ensures c.if-not-holds_records.false _ c.of-records.ensures _ c.first_length.ensures _
    (sym c.admit_fit.ensures ∙ c.in-Err.is))

pub file_or_restore-requires : goal.file_or_restore-requires
file_or_restore-requires c = standing _ _ _ _ (sym c.admit_fit.ensures ∙ c.in_default.is)

pub returns : goal.returns
returns c =
    named_value_p_after (batch-fitted _ _ _ _ c.holds_records.ensures c.if-not-holds_records.false _ c.of-records.ensures _ c.first_length.ensures _
    (sym c.admit_fit.ensures ∙ c.in_default.is) _ c.file_or_restore.ensures.value _ c.file_or_restore.ensures.p_after)
