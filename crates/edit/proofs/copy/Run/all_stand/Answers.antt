use Rattle.std.proofs.Common.{sym, ◌∙◌}
use Rattle.paper.proofs.Holding.{handed_on}
use Rattle.edit.proofs.RunKeys.{stand-refused, stand-on, stand_end}
use Rattle.edit.proofs.copy.Run.all_stand.Goals as goal

pub returns-in_err-stands : goal.returns-in_err-stands
returns-in_err-stands c =
    rw (handed_on c.from_residual.result _ c.from_residual.ensures.1)
    (stand-refused _ _ _ _ c.loop-j-test.true _ c.stands.ensures _ c.in_err-stands.was ∙ sym c.loop-j.invariant)

pub loop-j-preserved : goal.loop-j-preserved
loop-j-preserved c = c.loop-j.invariant ∙ stand-on _ _ _ _ c.loop-j-test.true _ c.stands.ensures c.in_ok-stands.was

pub returns : goal.returns
returns c = sym (c.loop-j.invariant ∙ stand_end _ _ _ _ c.loop-j-test.false)
