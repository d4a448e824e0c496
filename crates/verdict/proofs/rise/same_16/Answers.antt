-- Two runs that are the same are 16 bytes more in common.
use Rattle.std.proofs.Common.{leb-true}
use Rattle.keys.proofs.Methods.{agree-test}
use Rattle.verdict.proofs.rise.same_16.Goals as goal

pub returns : goal.returns
returns c =
    λ e h. leb-true _ _ (rw (agree-test 16 c.args.a.now c.args.b.now c.args.i h c.requires.0 c.requires.1, ← c.array.ensures, ← c.array-2.ensures, ← c.eq.ensures) e)
