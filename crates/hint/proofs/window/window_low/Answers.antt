-- The first hint's number of windows, as the definition says.
use Rattle.std.proofs.Common.{rules, leb}
use Rattle.paper.specs.Hints.{window_low}
use Rattle.hint.proofs.window.window_low.Goals as goal

pub returns : goal.returns
unfolding window_low
returns c = let low = c.first_hint.ensures.first (leb c.args.head) (search rules) in rw (low, c.from.ensures)
