use Rattle.std.proofs.Common.{sym, ◌∙◌}
use Rattle.verdict.proofs.Pieced.{held_more, held_all, held-not, slots_lie}
use Rattle.verdict.proofs.subject.Judged.payloads_held.Goals as goal

pub visit_slot-requires : goal.visit_slot-requires
visit_slot-requires c = (c.args.self.now.long, slots_lie _ c.args.self.now.rules)

pub returns-in_default : goal.returns-in_default
returns-in_default c = sym (held-not _ _ _ _ _ c.loop-i-test.true (sym c.visit_slot.ensures ∙ c.in_default.is))

pub loop-i-preserved : goal.loop-i-preserved
loop-i-preserved c =
    let s = c.args.self.now in
    held_more s.width s.page.now s.header _ _ c.loop-i-test.true c.loop-i.invariant (sym c.visit_slot.ensures ∙ c.in-Ok.is)

pub returns : goal.returns
returns c = sym (held_all _ _ _ _ c.loop-i-test.false c.loop-i.invariant)
