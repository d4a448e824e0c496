-- What the four steps show together (`sound`).
use Rattle.std.proofs.Common.{◌≡◌, ◌∙◌, arith}
use Rattle.verdict.proofs.Pieced.{held_all}
use Rattle.verdict.proofs.Sweeping.{sound}
use Rattle.verdict.proofs.subject.Judged.over.Goals as goal

pub payloads_lone-requires : goal.payloads_lone-requires
payloads_lone-requires g c =
    let room = c.requires in
    let swept = c.in_ok-needs.ensures.swept in
    let low = c.frame.ensures.origin in
    let before = c.in_ok-needs.ensures.origin in
    (omega (arith, room.most), (record { low = omega (arith, room.low); high = omega (arith, room.high); most = room.most }, held_all _ _ _ _ (omega arith) swept.held))

pub returns : goal.returns
returns g c =
    let entries = c.in_ok-needs.ensures in
    let frame = c.frame.ensures in
    let same : c.frame.new.starts.origin ≡ c.args.origin = frame.origin ∙ entries.origin in
    sound _ _ _ _ _ _ _ entries.swept (rw entries.origin at (frame.begun c.if-not-frame.false)) (rw same at (c.payloads_lone.ensures c.if-not-payloads_lone.false))
    (rw same at (c.frame_lone.ensures c.if-not-frame_lone.false))
