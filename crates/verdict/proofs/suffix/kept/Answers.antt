-- One law for each number of bytes.
use Rattle.std.proofs.Common.{arith}
use Rattle.verdict.proofs.Suffixes.{kept-four, kept-three, kept-two, kept-one, kept-none}
use Rattle.verdict.proofs.suffix.kept.Goals as goal

pub returns-in-4 : goal.returns-in-4
returns-in-4 c = kept-four _ (omega arith) _ (omega arith)

pub returns-in-3 : goal.returns-in-3
returns-in-3 c = kept-three _ (omega arith) _ (omega arith)

pub returns-in-2 : goal.returns-in-2
returns-in-2 c = kept-two _ (omega arith) _ (omega arith)

pub returns-in-1 : goal.returns-in-1
returns-in-1 c = kept-one _ (omega arith) _ (omega arith)

pub returns-in_default : goal.returns-in_default
returns-in_default c = kept-none _ _ c.requires (λ e. omega arith) (λ e. omega arith) (λ e. omega arith) (λ e. omega arith)
