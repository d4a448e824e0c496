-- The value of a slot lies on a fit page.
use Rattle.child.proofs.Served.{value-lies}
use Rattle.child.proofs.lookup.child_at.Goals as goal

pub read_u64-requires : goal.read_u64-requires
read_u64-requires c = let pre = c.requires in value-lies _ _ _ c.read_slot-s.ensures _ c.value_at.ensures c.if-n-eq0.false pre.2 pre.0 pre.1
