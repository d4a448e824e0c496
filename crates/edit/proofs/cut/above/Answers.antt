-- The order seen from the slot.
use Rattle.std.proofs.Common.{sym, ap, ◌∙◌}
use Rattle.std.specs.Ordering.{is_lt}
use Rattle.keys.proofs.Orders.{order_flip}
use Rattle.paper.specs.Lists.{less}
use Rattle.edit.proofs.Cuts.{lt_reverse}
use Rattle.edit.proofs.cut.above.Goals as goal

pub returns : goal.returns
unfolding less
returns c = rw (c.is_gt.ensures, c.order_slot.ensures) (lt_reverse _ ∙ ap is_lt (sym (order_flip _ _)))
