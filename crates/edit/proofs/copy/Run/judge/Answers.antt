-- A refusal of 8 or 9 is handed on.
use Rattle.paper.proofs.Holding.{handed_on}
use Rattle.edit.proofs.RunCalls.{judged-entry}
use Rattle.edit.proofs.copy.Run.judge.Goals as goal

pub returns-in_err-all_stand : goal.returns-in_err-all_stand
returns-in_err-all_stand c =
    rw (handed_on c.from_residual.result _ c.from_residual.ensures.1)
    (judged-entry c.args.width _ _ _ _ _ c.args.self.now.fenced _ c.args.self.now.shown _ c.requires.0 c.if-count-a.false c.if-count-a-2.false c.if-n-eq0.false _ c.all_stand.ensures _
    c.in_err-all_stand.was)
