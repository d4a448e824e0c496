-- No pair was found, the pairs of the pieces before j are apart, and in the inner loop piece j from those before i.
use Rattle.std.proofs.Common.{◌≡◌, false}
use Rattle.verdict.proofs.Overlaps.{AllClear, Clear}
use Rattle.verdict.proofs.subject.Judged.clash.Given as goal

abbrev pub invariant-pairs : goal.invariant-pairs
invariant-pairs l = (l.found ≡ false) × AllClear l.self.width l.self.page.now l.self.header l.j

abbrev pub invariant-loop-i : goal.invariant-loop-i
invariant-loop-i l = (l.found ≡ false) × Clear l.self.width l.self.page.now l.self.header l.j l.i
