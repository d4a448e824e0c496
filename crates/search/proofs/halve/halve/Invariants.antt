-- What is left to halve gives the same answer, and the slot that halving goes down to was met as `Last` says, or is the end:
-- one law for each way of a turn and one for each way out.
use Rattle.std.proofs.Common.{◌≡◌, ◌-◌, ◌≤◌}
use Rattle.paper.specs.Page.{header_of}
use Rattle.search.specs.Slot.{halved}
use Rattle.search.proofs.Halves.{Last}
use Rattle.search.proofs.halve.halve.Given as goal

abbrev pub invariant-loop-lo : goal.invariant-loop-lo
invariant-loop-lo l =
    let h = header_of l.slots.page.now in
    let x = l.sought.suffix.now in
    record {
      low : l.lo ≤ l.hi;
      high : l.hi ≤ l.window.high;
      halved : halved l.upper l.slots.width l.slots.page.now h.end x l.window.low l.window.high ≡ halved l.upper l.slots.width l.slots.page.now h.end x l.lo l.hi;
      last : Last l.slots.width l.slots.page.now h.end x l.window.high l.hi l.same;
    }

abbrev pub decreases-loop-lo : goal.decreases-loop-lo
decreases-loop-lo l = l.hi - l.lo
