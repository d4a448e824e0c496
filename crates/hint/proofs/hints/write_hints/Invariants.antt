-- The loop keeps what is left to put: the hints from place i on. A turn is `flat-turn`.
use Rattle.std.proofs.Common.{◌≡◌, ◌+◌, ◌*◌, drop}
use Rattle.octets.specs.Bytes.{put}
use Rattle.paper.specs.Hints.{flat}
use Rattle.hint.proofs.hints.write_hints.Given as goal

abbrev pub invariant-loop-i : goal.invariant-loop-i
invariant-loop-i l = put l.initial.p 64 (flat l.hint-items) ≡ put l.p (64 + 4 * l.i) (flat (drop l.i l.hint-items))
