-- What agrees up to the end of the shorter key is all that they share.
use Rattle.std.proofs.Common.{arith}
use Rattle.keys.proofs.Methods.{reach-end}
use Rattle.keys.proofs.shared.singles.Goals as goal

pub returns : goal.returns
returns c = reach-end _ _ _ _ c.requires (omega arith)
