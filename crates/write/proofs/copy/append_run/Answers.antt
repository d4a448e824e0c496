use Rattle.std.proofs.Common.{sym, ◌∙◌, arith}
use Rattle.write.proofs.Appends.{turn-room, turn-ready, turn-page, run_done}
use Rattle.write.proofs.copy.append_run.Goals as goal

pub append-filed-requires : goal.append-filed-requires
append-filed-requires c = record { there = omega arith; room = turn-room _ _ _ _ _ _ c.loop-j-test.true c.requires.0 c.loop-j.invariant.ready }

pub loop-j-preserved : goal.loop-j-preserved
loop-j-preserved c =
    let filed = c.append-filed.ensures in
    record {
      ready = turn-ready _ _ _ _ _ _ c.loop-j-test.true c.requires.0 c.loop-j.invariant.ready _ _ filed.value filed.p_after;
      page = c.loop-j.invariant.page ∙ turn-page _ _ _ _ _ _ c.loop-j-test.true c.requires.0 c.loop-j.invariant.ready _ _ filed.value filed.p_after;
    }

pub returns : goal.returns
returns c =
    let loop = c.loop-j in
    let ready = loop.invariant.ready in
    record { value = (ready.header, omega (arith, ready.start, ready.room, ready.top)); p_after = sym (loop.invariant.page ∙ run_done _ _ _ _ _ c.loop-j-test.false) }
