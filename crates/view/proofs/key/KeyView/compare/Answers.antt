-- The prefix against the front of the probe; where they are the same, the suffix shown against the rest of it.
use Rattle.view.proofs.Shows.{order_rest, order_front}
use Rattle.view.proofs.key.KeyView.compare.Goals as goal

pub returns-in-Equal : goal.returns-in-Equal
returns-in-Equal c = order_rest _ _ _ _ _ _ _ c.order_by_shared.ensures c.in-Equal.is c.shown_suffix.ensures c.order_by_shared-in-Equal.ensures

pub returns-in_default : goal.returns-in_default
returns-in_default c = order_front _ _ _ _ _ c.min-n.ensures c.order_by_shared.ensures c.in_default.not-Equal
