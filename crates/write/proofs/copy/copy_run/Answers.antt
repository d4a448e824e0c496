-- Nothing for no entry; else the header that came back is the page's, so its flag and count are those that the refresh goes by.
use Rattle.write.proofs.Appends.{run_nothing, run-refreshed}
use Rattle.write.proofs.copy.copy_run.Goals as goal

pub returns-then-n-eq0 : goal.returns-then-n-eq0
returns-then-n-eq0 c = run_nothing _ _ c.args.q.now c.args.a _ c.if-n-eq0.true

pub returns : goal.returns
returns c =
    rw c.refresh.ensures
    (run-refreshed _ _ _ _ _ c.if-n-eq0.false c.requires.1 _ _ c.append_run-filed.ensures.value.0 c.append_run-filed.ensures.p_after)
