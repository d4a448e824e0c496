-- The front of `out` is the hex of the bytes before the place.
use Rattle.std.proofs.Common.{◌≡◌, ◌*◌, length, take}
use Rattle.paper.specs.Printed.{hex_bytes}
use Rattle.listing.proofs.text.write_hex.Given as goal

abbrev pub invariant-loop-i : goal.invariant-loop-i
invariant-loop-i l = (length l.out ≡ 2 * length l.bytes) × (take (2 * l.i) l.out ≡ hex_bytes (take l.i l.bytes))
