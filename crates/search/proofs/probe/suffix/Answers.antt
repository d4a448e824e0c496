-- Nothing is left of a probe that is no longer than the prefix.
use Rattle.search.proofs.Classes.{suffix-none}
use Rattle.search.proofs.probe.suffix.Goals as goal

pub returns-then-probe-n : goal.returns-then-probe-n
returns-then-probe-n c = suffix-none _ _ _ c.read_u16-n.ensures c.if-probe-n.true
