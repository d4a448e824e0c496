-- The parts of the page are the two suffixes.
use Rattle.node.proofs.Spelling.{suffix-long}
use Rattle.verdict.proofs.Suffixes.{below_bytes}
use Rattle.verdict.proofs.suffix.bytes_below.Goals as goal

pub returns : goal.returns
returns c = below_bytes _ _ _ _ _ _ (suffix-long _ _ c.requires.0) (suffix-long _ _ c.requires.1) c.below.ensures
