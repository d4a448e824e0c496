-- Keys rise, so the first and the last lie within the fences where all do (`ends-are`).
use Rattle.std.proofs.Common.{◌∙◌, ◌-◌, arith}
use Rattle.verdict.proofs.Pieced.{slots_lie}
use Rattle.verdict.proofs.Sweeping.{slot_at_lem, entry_at, inside-none, ends-are}
use Rattle.verdict.proofs.subject.Judged.ends_fenced.Goals as goal

pub returns-then-n-eq0 : goal.returns-then-n-eq0
returns-then-n-eq0 c = inside-none _ _ _ c.if-n-eq0.true

pub honest-first-requires : goal.honest-first-requires
honest-first-requires c =
    entry_at _ _ _ 0 96 _ c.read_slot.ensures (omega arith) c.args.self.now.long c.requires.0 (omega arith)

pub read_slot-requires-2 : goal.read_slot-requires-2
read_slot-requires-2 c = omega (arith, slots_lie _ c.args.self.now.rules, c.args.self.now.long)

pub honest-last-requires : goal.honest-last-requires
honest-last-requires c =
    let n = c.args.self.now.header.count in
    entry_at _ _ _ (n - 1) _ _ c.read_slot-2.ensures (omega arith) c.args.self.now.long c.requires.0 (omega arith)

pub returns : goal.returns
returns c =
    let n = c.args.self.now.header.count in
    let first = c.honest-first.ensures.2 ∙ slot_at_lem _ 0 96 _ c.read_slot.ensures (omega arith) in
    let last = c.honest-last.ensures.2 ∙ slot_at_lem _ (n - 1) _ _ c.read_slot-2.ensures (omega arith) in
    ends-are _ _ _ _ _ _ _ _ c.requires.1 (omega arith) c.fences-fences.ensures first last c.below.ensures c.below-2.ensures
