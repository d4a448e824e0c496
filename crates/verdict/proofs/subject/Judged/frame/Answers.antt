use Rattle.std.proofs.Common.{◌∙◌, arith}
use Rattle.verdict.proofs.Starting.{starts_more}
use Rattle.verdict.proofs.Sweeping.{frame_lies, in_map}
use Rattle.verdict.proofs.subject.Judged.frame.Goals as goal

pub begin-requires : goal.begin-requires
begin-requires g c =
    let s = c.args.self.now in
    let room = c.requires.0 in
    let turn = c.loop-j.invariant in
    let low = room.low in
    let high = room.high in
    (omega (arith, room.most), in_map s.header.end _ g.row.N _ _ _ c.piece.ensures (frame_lies s.width s.page.now s.header _ s.rules (omega arith)) (omega arith) (omega arith))

pub loop-j-preserved : goal.loop-j-preserved
loop-j-preserved g c =
    let s = c.args.self.now in
    let turn = c.loop-j.invariant in
    let begun = c.begin.ensures in
    let low = c.requires.0.low in
    let high = c.requires.0.high in
    let lies = in_map s.header.end c.loop-j.starts.origin g.row.N _ _ _ c.piece.ensures (frame_lies s.width s.page.now s.header _ s.rules (omega arith)) (omega arith) (omega arith) in
    (begun.origin ∙ turn.0, rw begun.origin (starts_more _ _ _ _ _ _ _ turn.1 c.piece.ensures (λ l. (lies l).0) (begun.begun c.if-not-begin.false)))
