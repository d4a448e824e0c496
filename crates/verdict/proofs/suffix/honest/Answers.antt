-- The head of the suffix in the place of the stored one.
use Rattle.verdict.specs.Tally.{honest_of}
use Rattle.verdict.proofs.Suffixes.{honest-is}
use Rattle.verdict.proofs.suffix.honest.Goals as goal

pub returns : goal.returns
unfolding honest_of
returns c = honest-is _ _ c.true_head.ensures.1 _ c.requires (rw c.true_head.ensures.0)
