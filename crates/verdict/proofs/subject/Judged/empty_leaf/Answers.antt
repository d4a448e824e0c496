-- Both numbers are those of the definition.
use Rattle.std.proofs.Common.{refl}
use Rattle.verdict.specs.Fits.{empty_leaf_with}
use Rattle.verdict.proofs.subject.Judged.empty_leaf.Goals as goal

pub returns : goal.returns
unfolding empty_leaf_with
returns c = refl
