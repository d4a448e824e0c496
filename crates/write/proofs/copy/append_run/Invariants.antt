-- What is left of the run, appended to the page as it is now, is the whole run appended to the page as it was.
use Rattle.std.proofs.Common.{◌-◌, ◌≡◌}
use Rattle.paper.specs.Calls.{run}
use Rattle.paper.specs.Edits.{appended}
use Rattle.write.specs.Room.{Ready}
use Rattle.write.proofs.copy.append_run.Given as goal

abbrev pub invariant-loop-j : goal.invariant-loop-j
invariant-loop-j l =
    let rest = run l.source.width l.source.page.now l.j (l.j-end - l.j) in
    record {
      ready : Ready l.source.width l.p l.filed rest;
      page : appended l.source.width l.initial.p (run l.source.width l.source.page.now l.a l.n) ≡ appended l.source.width l.p rest;
    }
