-- The pieces before j are marked on the map and apart from each other: `cover-more` is a turn.
use Rattle.std.proofs.Common.{◌≡◌, length}
use Rattle.verdict.proofs.Covers.{Cover}
use Rattle.verdict.proofs.subject.Judged.clear.Given as goal

abbrev pub invariant-loop-j : goal.invariant-loop-j
invariant-loop-j l = (length l.map ≡ 16384) × Cover l.self.width l.self.page.now l.self.header l.j l.map
