-- Each sum stays below its modulus, so that no turn overflows.
use Rattle.std.proofs.Common.{◌<◌}
use Rattle.ask.proofs.calls.digest.Given as goal

abbrev pub invariant-loop-byte : goal.invariant-loop-byte
invariant-loop-byte l = (l.h1 < 4294967291) × (l.h2 < 4294967279)
