-- Each test leaves one piece of the definition.
use Rattle.std.proofs.Common.{arith}
use Rattle.node.proofs.Rules.{rules_in}
use Rattle.verdict.proofs.Pieced.{piece-payload, piece-prefix, piece-lower, piece-upper, slots_lie}
use Rattle.verdict.proofs.subject.Judged.piece.Goals as goal

pub payload-requires : goal.payload-requires
payload-requires c = omega (arith, slots_lie _ c.args.self.now.rules)

pub returns-then-j-n : goal.returns-then-j-n
returns-then-j-n c =
    let s = c.args.self.now in
    rw (piece-payload s.width s.page.now s.header c.args.j c.if-j-n.true) c.payload.ensures

pub prefix-requires : goal.prefix-requires
prefix-requires c = (rules_in _ c.args.self.now.rules).prefix_most

pub returns-then-j-n-2 : goal.returns-then-j-n-2
returns-then-j-n-2 c =
    let s = c.args.self.now in
    rw (piece-prefix s.width s.page.now s.header c.args.j c.if-j-n-2.true) c.prefix.ensures

pub returns-then-j-n-3 : goal.returns-then-j-n-3
returns-then-j-n-3 c =
    let s = c.args.self.now in
    rw (piece-lower s.width s.page.now s.header c.args.j c.if-j-n-3.true) c.fence.ensures

pub returns : goal.returns
returns c =
    let s = c.args.self.now in
    rw (piece-upper s.width s.page.now s.header c.args.j (omega arith)) c.fence-2.ensures
