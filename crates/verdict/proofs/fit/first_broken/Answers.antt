-- What is said of the page as it is judged is said of its own header.
use Rattle.verdict.proofs.Fitting.{broken-1}
use Rattle.verdict.proofs.fit.first_broken.Goals as goal

pub returns-in-None : goal.returns-in-None
returns-in-None c = broken-1 _ _ _ c.in-None.ensures.broken
