-- Where a record was refused, the page is written over with what was saved of it.
use Rattle.std.proofs.Common.{arith, sym, ◌∙◌, length-take-le}
use Rattle.verdict.proofs.Covers.{long}
use Rattle.filing.proofs.Folds.{left-filed, left-restored}
use Rattle.filing.proofs.batch.file_or_restore.Goals as goal

pub slice_bounds-copy_in-end-3 : goal.slice_bounds-copy_in-end-3
slice_bounds-copy_in-end-3 c = sym (length-take-le 16384 c.args.p.now (omega (arith, c.requires.size)))

pub copy_in-requires : goal.copy_in-requires
copy_in-requires c = omega (arith, c.requires.size, long 16384, length-take-le 16384 c.args.p.now (omega (arith, c.requires.size)))

pub returns-then-is_err : goal.returns-then-is_err
returns-then-is_err c =
    let size = c.requires.size in record {
      value = c.file_all-filed.ensures.value;
      p_after = left-restored _ _ c.is_err.ensures.negation _ _ _ c.if-is_err.true (omega (arith, size)) _ _ (long 16384 ∙ sym size) 16384 (omega (arith, size)) c.copy_in.ensures _
          c.copy_in-then-is_err.ensures;
    }

pub returns-else-is_err : goal.returns-else-is_err
returns-else-is_err c =
    let told = c.is_err in
    record { value = c.file_all-filed.ensures.value; p_after = left-filed _ _ told.ensures.negation _ _ _ c.if-is_err.false c.file_all-filed.ensures.p_after }
