use Rattle.std.proofs.Common.{sym, ap, ◌∙◌, arith, length}
use Rattle.filing.proofs.Placed.{few}
use Rattle.filing.proofs.Folds.{fold_done, page-done, fold-refused, fold_on, page-on, not_filed}
use Rattle.filing.specs.declared.batch.NotFiled.TheVariants.{Refused}
use Rattle.filing.proofs.batch.file_all.Goals as goal

pub returns-in-Err : goal.returns-in-Err
returns-in-Err c =
    record {
      value = sym (c.loop-record.invariant.fold ∙ fold-refused _ _ _ _ _ (rw (← c.record.view_is) at c.in-Some.ensures.steps) _ _ c.file_one.ensures.value _ c.in-Err.is);
      p_after = not_filed (Refused c.loop-record.filed c.in-Err.r);
    }

pub overflow_add-filed : goal.overflow_add-filed
overflow_add-filed c = omega (arith, c.loop-record.invariant.count, ap length c.in-Some.ensures.steps, few c.args.records.left.now)

pub loop-record-preserved : goal.loop-record-preserved
loop-record-preserved c =
    let loop = c.loop-record.invariant in
    let one = c.file_one.ensures in
    let first = rw (← c.record.view_is) at c.in-Some.ensures.steps in
    record {
      count = omega (arith, loop.count, ap length first);
      size = omega (arith, loop.size, c.file_one.auto.p);
      standing = one.standing;
      fold = loop.fold ∙ fold_on _ _ _ _ _ first _ one.p_after _ _ one.value _ c.in_default.is;
      page = loop.page ∙ page-on _ _ _ _ _ first _ one.p_after;
    }

pub returns : goal.returns
returns c =
    let loop = c.loop-record.invariant in
    let none = c.in-None.ensures.steps.0 in
    record { value = sym (loop.fold ∙ fold_done _ _ _ none _); p_after = λ e. sym (loop.page ∙ page-done _ _ _ none) }
