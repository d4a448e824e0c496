-- The slots before i hold U2. A slot that may be visited is one more, one that may not breaks the rule.
use Rattle.std.proofs.Common.{ℕ, ◌<◌}
use Rattle.verdict.proofs.Pieced.{Holds}
use Rattle.verdict.proofs.subject.Judged.payloads_held.Given as goal

abbrev pub invariant-loop-i : goal.invariant-loop-i
invariant-loop-i l = (k : ℕ) → k < l.i → Holds l.self.width l.self.page.now l.self.header k
