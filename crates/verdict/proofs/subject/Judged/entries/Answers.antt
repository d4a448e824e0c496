use Rattle.std.proofs.Common.{arith, refl, sym, ◌∙◌}
use Rattle.paper.specs.Verdicts.{slot_payload}
use Rattle.paper.proofs.Fit.{within_fact}
use Rattle.verdict.proofs.Tallied.{count_most}
use Rattle.verdict.proofs.Sweeping.{in_map, held-room, honest-held, before_more, swept_none, swept-more, swept-fits}
use Rattle.verdict.proofs.subject.Judged.entries.Goals as goal

pub loop-i-init : goal.loop-i-init
loop-i-init g c = record { origin = refl; swept = swept_none _ _ _ _ _; before = refl }

pub read_slot-s-requires : goal.read_slot-s-requires
read_slot-s-requires g c = omega (arith, count_most _ _ c.args.self.now.rules c.loop-i-test.true, c.args.self.now.long)

pub true_head-requires : goal.true_head-requires
true_head-requires g c =
    let s = c.args.self.now in
    held-room s.width s.page.now _ c.read_slot-s.result s.long (sym c.payload_within.ensures ∙ c.if-not-payload_within.false)

pub above-requires : goal.above-requires
above-requires g c =
    let s = c.args.self.now in
    let held = sym c.payload_within.ensures ∙ c.if-not-payload_within.false in (
      c.loop-i.invariant.before,
      count_most _ _ s.rules c.loop-i-test.true,
      s.long,
      honest-held s.width s.page.now _ c.read_slot-s.result _ s.long held c.true_head.ensures.0 c.if-true_head-s.false,
    )

pub begin-requires : goal.begin-requires
begin-requires g c =
    let s = c.args.self.now in
    let room = c.requires in
    let low = room.low in
    let high = room.high in
    let turn = c.loop-i.invariant.origin in
    let held = sym c.payload_within.ensures ∙ c.if-not-payload_within.false in
    (omega (arith, room.most), in_map s.header.end _ g.row.N _ _ (slot_payload s.width c.read_slot-s.result) (refl, rw c.suffix_bytes.ensures.0) (λ l. within_fact _ _ held) (omega arith) (omega arith))

pub overflow_add-needs-in-loop-i : goal.overflow_add-needs-in-loop-i
overflow_add-needs-in-loop-i g c =
    let s = c.args.self.now in
    let most = swept-fits _ _ _ _ _ _ _ s.bytes (omega arith) (count_most _ _ s.rules c.loop-i-test.true) c.loop-i.invariant.swept in
    omega (arith, most, c.suffix_bytes.ensures.1)

pub loop-i-preserved : goal.loop-i-preserved
loop-i-preserved g c =
    let s = c.args.self.now in
    let turn = c.loop-i in
    let begun = c.begin.ensures in
    let n = c.suffix_bytes in
    let held = sym c.payload_within.ensures ∙ c.if-not-payload_within.false in
    let above = c.above.ensures c.if-not-above.false in
    let head = c.true_head.ensures.0 in
    let slot = c.read_slot-s.ensures in
    let low = c.requires.low in
    let same = turn.invariant.origin in
    record {
      origin = begun.origin ∙ turn.invariant.origin;
      swept = rw begun.origin
          (swept-more s.width s.page.now s.header turn.starts.origin turn.i turn.needs turn.starts.cells _ c.read_slot-s.result c.true_head.result
          n.result turn.invariant.swept c.loop-i-test.true slot held head c.if-true_head-s.false above n.ensures.0 (omega arith) (begun.begun c.if-not-begin.false));
      before = (
        omega arith,
        before_more s.width s.page.now s.header turn.starts.origin turn.i turn.needs turn.starts.cells turn.starts.cells c.read_slot-s.result c.true_head.result
            n.result turn.invariant.swept c.loop-i-test.true slot held head c.if-true_head-s.false above n.ensures.0 s.long,
      );
    }
