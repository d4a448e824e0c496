-- Each way out is a side of the definition's test.
use borrow.Author.Tests.{le-leb, lt-leb, le-ltb}
use Rattle.paper.specs.Edits.{outgrows}
use Rattle.write.proofs.change.outgrows.Goals as goal

pub returns-then-suffix-gt4 : goal.returns-then-suffix-gt4
unfolding outgrows
returns-then-suffix-gt4 c = rw (lt-leb _ _ c.if-suffix-gt4.true)

pub returns-else-suffix-gt4 : goal.returns-else-suffix-gt4
unfolding outgrows
returns-else-suffix-gt4 c = rw (le-leb _ _ c.if-suffix-gt4.false, le-ltb _ _ c.if-suffix-gt4.false)
