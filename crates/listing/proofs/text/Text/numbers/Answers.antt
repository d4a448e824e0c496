use Rattle.std.proofs.Common.{arith}
use Rattle.listing.proofs.Decimals.{length-decimal, words-turn}
use Rattle.listing.proofs.Writing.{left-less}
use Rattle.listing.proofs.text.Text.numbers.Goals as goal

pub loop-n-preserved : goal.loop-n-preserved
loop-n-preserved c =
    let h = c.loop-n-test.true in (
      left-less _ _ _ _ _ _ (left-less _ _ _ _ _ _ (rw words-turn at c.loop-n.invariant.0) c.push.ensures) c.decimal.ensures,
      omega (arith, length-decimal),
    )
