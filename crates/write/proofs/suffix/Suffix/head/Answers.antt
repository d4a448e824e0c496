-- Four bytes, the highest first.
use Rattle.std.proofs.Common.{arith}
use Rattle.keys.specs.Keys.{head_of}
use Rattle.octets.proofs.Big.{be_four}
use Rattle.write.proofs.suffix.Suffix.head.Goals as goal

pub returns : goal.returns
unfolding head_of
returns c = rw be_four (omega arith)
