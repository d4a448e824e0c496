use Rattle.std.proofs.Common.{sym, ◌∙◌, arith, leb-false}
use Rattle.verdict.proofs.Sweeping.{frame_lies, in_map}
use Rattle.verdict.proofs.subject.Judged.frame_lone.Goals as goal

pub lone-requires : goal.lone-requires
lone-requires g c =
    let s = c.args.self.now in
    let room = c.requires in
    let some = leb-false _ _ (sym c.is_empty.ensures ∙ c.if-not-is_empty.true) in
    let lies = in_map s.header.end _ g.row.N _ _ _ c.piece-e.ensures (frame_lies s.width s.page.now s.header _ s.rules (omega arith)) room.low room.high some in
    (omega (arith, room.most), (lies.0, omega arith, lies.1, lies.2))
