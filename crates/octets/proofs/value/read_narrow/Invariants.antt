-- The loop keeps the number in the bytes from i on. A turn, `read_turn`, takes the byte below; fewer than eight bytes leave room for it (`le-lt_7`).
-- One proof for every width.
use Rattle.std.proofs.Common.{◌≡◌, ◌+◌, ◌-◌, ◌≤◌}
use Rattle.octets.specs.Bytes.{le}
use Rattle.octets.proofs.value.read_narrow.Given as goal

abbrev pub invariant-loop-i : goal.invariant-loop-i
invariant-loop-i l = (l.i ≤ l.width) × (l.v ≡ le (l.width - l.i) l.p (l.at + l.i))
