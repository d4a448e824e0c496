use Rattle.std.proofs.Common.{arith, eqb-true}
use Rattle.verdict.proofs.Covers.{free-word, free_left, free_upto}
use Rattle.verdict.proofs.cells.free.Goals as goal

pub loop-i-preserved : goal.loop-i-preserved
loop-i-preserved c =
    free_upto _ _ _ _ (free-word 8 _ _ _ _ _ c.loop-i.invariant (omega arith) c.read_u64.ensures c.if-read_u64-ne0.false) (omega arith)

pub returns : goal.returns
returns c =
    λ e. free_upto _ _ _ _ (free_left _ _ _ _ _ (λ k. (c.type_inv.map k).fits) (free_upto _ _ _ _ c.loop-i.invariant (omega arith)) (omega arith) (omega arith) c.read_u64-2.ensures (eqb-true _ _ e)) (omega arith)
