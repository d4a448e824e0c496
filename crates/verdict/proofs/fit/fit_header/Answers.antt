-- No rule is broken, or the refusal carries the first.
use Rattle.std.proofs.Common.{sym}
use Rattle.verdict.proofs.Fitness.{unfit-header, fit-header}
use Rattle.verdict.proofs.fit.fit_header.Goals as goal

pub returns-in-Some : goal.returns-in-Some
returns-in-Some c = unfit-header _ _ _ (sym c.in-Some.ensures)

pub returns-in-None : goal.returns-in-None
returns-in-None c = fit-header _ _ _ c.read_header.ensures (sym c.in-None.ensures)
