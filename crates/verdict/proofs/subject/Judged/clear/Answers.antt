use Rattle.verdict.proofs.Pieced.{piece_body}
use Rattle.verdict.proofs.Overlaps.{clear-to}
use Rattle.verdict.proofs.Covers.{cover-more, cover_all}
use Rattle.std.proofs.Common.{rules, arith}
use Rattle.verdict.proofs.subject.Judged.clear.Goals as goal

pub enter-requires : goal.enter-requires
enter-requires c =
    let s = c.args.self.now in
    let e = c.piece.ensures in
    λ l. omega (arith, piece_body s.width s.page.now s.header c.loop-j.j s.rules c.requires (omega arith))

pub returns-then-not-enter : goal.returns-then-not-enter
returns-then-not-enter c =
    let turn = c.loop-j in
    (omega arith, clear-to _ _ _ _ turn.invariant.1.clear)

pub loop-j-preserved : goal.loop-j-preserved
loop-j-preserved c =
    let e = c.piece.ensures in
    (search rules, cover-more _ _ _ _ _ _ _ _ c.loop-j.invariant.1 e.0 e.1 (c.enter.ensures c.if-not-enter.false))

pub returns : goal.returns
returns c = (omega arith, cover_all _ _ _ _ _ _ (omega arith) c.loop-j.invariant.1)
