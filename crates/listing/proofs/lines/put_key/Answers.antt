-- The hex of two runs one after the other is the hex of the key, unless both are empty.
use Rattle.std.proofs.Common.{arith, length-append}
use Rattle.listing.proofs.Writing.{adds-then, length-hex, key-hexed}
use Rattle.listing.proofs.lines.put_key.Goals as goal

pub returns-else-key-suffix-eq0 : goal.returns-else-key-suffix-eq0
returns-else-key-suffix-eq0 c =
    let a = c.args.key.now.prefix.now in
    let b = c.shown_suffix-suffix.result.now in
    let all = length-append a b in
    rw (← c.shown_suffix-suffix.ensures)
    (rw (key-hexed a b (omega (arith, all))) (adds-then _ _ _ _ _ c.hex.ensures c.hex-else-key-suffix-eq0.ensures), omega (arith, all, length-hex a, length-hex b))
