-- The loop keeps what is left to put: the rest of `src` from place j on. A turn is `copy-turn`, and at the end nothing is left (`copy_done`).
use Rattle.std.proofs.Common.{◌≡◌, ◌+◌, drop}
use Rattle.octets.specs.Bytes.{put}
use Rattle.octets.proofs.runs.copy_in.Given as goal

abbrev pub invariant-loop-j : goal.invariant-loop-j
invariant-loop-j l = put l.initial.p l.at l.src ≡ put l.p (l.at + l.j) (drop l.j l.src)
