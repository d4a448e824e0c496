-- The loop keeps what is left to put: the bytes of the running quotient from the place of the next byte on. A turn is `write_turn`.
use Rattle.std.proofs.Common.{◌≡◌, ◌-◌}
use Rattle.octets.specs.Bytes.{bytes, put}
use Rattle.octets.proofs.value.write_bytes.Given as goal

abbrev pub invariant-loop-byte : goal.invariant-loop-byte
invariant-loop-byte l = put l.initial.byte-items 0 (bytes l.width l.v) ≡ put l.byte-items l.byte-index (bytes (l.width - l.byte-index) l.rest)
