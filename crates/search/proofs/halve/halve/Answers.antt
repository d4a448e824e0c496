-- A slot that refuses, and one that is above.
use Rattle.std.proofs.Common.{sym, ap, ◌∙◌, arith, Ok}
use Rattle.paper.specs.Refusals.{refusal_of}
use Rattle.search.proofs.Halves.{halved-refused, halved-above, last-above}
use Rattle.search.proofs.halve.halve.Goals as goal

pub returns-in_default : goal.returns-in_default
unfolding refusal_of
returns-in_default c =
    let told = c.in_default.is in
    rw (c.refusal_of.ensures, told)
    (c.loop-lo.invariant.halved ∙ halved-refused _ _ _ _ _ _ _ _ c.loop-lo-test.true (sym c.meet_at-met.ensures ∙ told))

pub loop-lo-preserved : goal.loop-lo-preserved
loop-lo-preserved c =
    let met = sym c.meet_at-met.ensures ∙ c.in-Ok.is ∙ ap Ok c.in-Greater.is in
    let inv = c.loop-lo.invariant in
    record {
      low = omega arith;
      high = omega arith;
      halved = inv.halved ∙ halved-above _ _ _ _ _ _ _ c.loop-lo-test.true met;
      last = last-above _ _ _ _ _ _ _ _ inv.last (omega arith) met;
    }
