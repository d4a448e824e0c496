-- What is said of the page as it is judged is said of its own header.
use Rattle.verdict.proofs.Fitting.{layout-1}
use Rattle.verdict.proofs.layout.layout_right.Goals as goal

pub returns-in-None : goal.returns-in-None
returns-in-None c = layout-1 _ _ _ c.in-None.ensures.broken
