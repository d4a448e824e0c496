use Rattle.std.proofs.Common.{arith, length-set, refl}
use Rattle.paper.specs.Printed.{hex_bytes}
use Rattle.listing.proofs.Decimals.{hex-turn, hex-done}
use Rattle.listing.proofs.text.write_hex.Goals as goal

pub loop-i-init : goal.loop-i-init
unfolding hex_bytes
loop-i-init c = (c.requires, refl)

pub loop-i-preserved : goal.loop-i-preserved
loop-i-preserved c =
    let turn = c.loop-i in
    (simp length-set turn.invariant.0, hex-turn _ _ turn.i turn.invariant.0 turn.invariant.1 _ _ c.loop-i-test.true c.digit.ensures c.digit-in-loop-i.ensures)

pub returns : goal.returns
returns c = hex-done _ _ c.loop-i.i c.loop-i.invariant.0 c.loop-i.invariant.1 (omega arith)
