-- What is left of the run decides as the whole does: a refusal ends it, and an entry that stands leaves the rest.
use Rattle.std.proofs.Common.{◌≡◌, ◌-◌}
use Rattle.edit.specs.RunTests.{standing_from}
use Rattle.edit.proofs.copy.Run.all_stand.Given as goal

abbrev pub invariant-loop-j : goal.invariant-loop-j
invariant-loop-j l = standing_from l.self.page.now l.self.source.now l.a l.n ≡ standing_from l.self.page.now l.self.source.now l.j (l.j-end - l.j)
