use Rattle.std.proofs.Common.{refl, arith}
use Rattle.verdict.proofs.Tallied.{entry-room, weighed-is, last-is, count_most, tally-none}
use Rattle.verdict.proofs.subject.Judged.tally_entries.Goals as goal

pub loop-i-init : goal.loop-i-init
loop-i-init c = record { tally = tally-none _ _ _; before = refl }

pub read_slot-requires : goal.read_slot-requires
read_slot-requires c = omega (arith, count_most _ _ c.args.self.now.rules c.loop-i-test.true, c.args.self.now.long)

pub honest-s-requires : goal.honest-s-requires
honest-s-requires c = entry-room _ _ _ c.read_slot.ensures _ _ c.args.self.now.long c.requires c.loop-i-test.true

pub with_entry-t-requires : goal.with_entry-t-requires
with_entry-t-requires c =
    record {
      number = count_most _ _ c.args.self.now.rules c.loop-i-test.true;
      fences = c.fences-fences.ensures;
      slot = weighed-is _ _ _ c.read_slot.ensures _ c.honest-s.ensures.0;
      before = c.loop-i.invariant.before;
      honest_slot = c.honest-s.ensures.1;
      tally = c.loop-i.invariant.tally;
    }

pub loop-i-preserved : goal.loop-i-preserved
loop-i-preserved c =
    record { tally = c.with_entry-t.ensures; before = (omega arith, last-is _ _ _ c.read_slot.ensures _ c.honest-s.ensures.0, c.honest-s.ensures.1) }
