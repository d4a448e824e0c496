-- A page that is fit has what the tests ask of it; where they all hold the writing half has what it asks.
use Rattle.paper.proofs.Holding.{handed_on}
use Rattle.edit.proofs.RunCalls.{shown-given, fenced-given, order-given, lent-asked, lent-judged, copy-refused, copy-asked, copy_done}
use Rattle.octets.proofs.Clauses.{named_value_p_after}
use Rattle.edit.proofs.copy.copy_fit.Goals as goal

pub between-requires : goal.between-requires
between-requires c =
    let here = c.requires.p_len in
    let there = c.requires.q_len in
    (fenced-given c.args.width _ here.0 here.1 _ here.2, shown-given c.args.width _ there.0 there.1 _ there.2)

pub judge-requires : goal.judge-requires
judge-requires c =
    let here = c.requires.p_len in
    lent-asked _ _ _ _ _ _ c.between.ensures _ c.requires.q_len.2 (order-given c.args.width _ here.0 here.1 _ here.2)

pub returns-in_err-judge : goal.returns-in_err-judge
returns-in_err-judge c =
    rw (handed_on c.from_residual.result _ c.from_residual.ensures.1)
    (named_value_p_after (copy-refused _ _ _ _ _ _ (lent-judged _ _ _ _ _ _ c.between.ensures _ _ _ _ c.judge.ensures) _ c.in_err-judge.was))

pub copy_run-requires : goal.copy_run-requires
copy_run-requires c =
    let here = c.requires.p_len in
    let there = c.requires.q_len in
    copy-asked _ _ _ _ _ _ (lent-judged _ _ _ _ _ _ c.between.ensures _ _ _ _ c.judge.ensures) c.in_ok-judge.was here.0 here.1 _ here.2 there.0 there.1 _ there.2 there.3

pub returns : goal.returns
returns c = named_value_p_after (copy_done _ _ _ _ _ _ (lent-judged _ _ _ _ _ _ c.between.ensures _ _ _ _ c.judge.ensures) c.in_ok-judge.was _ c.copy_run.ensures)
