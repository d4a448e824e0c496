-- The three ways out: below the lower fence, no upper fence, what the upper one says.
use Rattle.std.proofs.Common.{sym, eq-eqb}
use Rattle.search.proofs.Fences.{inside-below, inside-free, inside-upper}
use Rattle.edit.proofs.cut.inside.Goals as goal

pub returns-then-below : goal.returns-then-below
returns-then-below c = sym (inside-below _ _ _ _ c.below.ensures c.if-below.true)

pub returns-then-h-eq0 : goal.returns-then-h-eq0
returns-then-h-eq0 c = rw (eq-eqb _ _ c.if-h-eq0.true) (sym (inside-free _ c.args.h _ _ c.below.ensures c.if-below.false c.if-h-eq0.true))

pub returns-else-h-eq0 : goal.returns-else-h-eq0
returns-else-h-eq0 c = sym (inside-upper _ _ _ _ c.below.ensures _ c.if-below.false c.if-h-eq0.false c.below-else-h-eq0.ensures)
