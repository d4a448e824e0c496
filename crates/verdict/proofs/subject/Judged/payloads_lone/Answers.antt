use Rattle.std.proofs.Common.{arith}
use Rattle.verdict.proofs.Tallied.{count_most}
use Rattle.verdict.proofs.Sweeping.{payload_lies, lone-more, lone-payload}
use Rattle.verdict.proofs.subject.Judged.payloads_lone.Goals as goal

pub payload-requires : goal.payload-requires
payload-requires g c = omega (arith, count_most _ _ c.args.self.now.rules c.loop-j-test.true)

pub lone-requires : goal.lone-requires
lone-requires g c =
    let room = c.requires.0 in
    let lies = payload_lies _ _ _ _ g.row.N _ _ _ c.requires.1 c.loop-j-test.true c.payload.ensures room.low room.high in
    (omega (arith, room.most), lies)

pub loop-j-preserved : goal.loop-j-preserved
loop-j-preserved g c =
    lone-more _ _ _ _ _ _ _ c.loop-j.invariant (lone-payload _ _ _ _ _ _ _ _ c.loop-j-test.true c.payload.ensures (c.lone.ensures c.if-not-lone.false))
