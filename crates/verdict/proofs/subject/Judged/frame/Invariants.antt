-- The starts of the pieces before j stand on the map: `starts_more` is a turn.
use Rattle.std.proofs.Common.{◌≡◌}
use Rattle.verdict.specs.Pieces.{piece_at}
use Rattle.verdict.specs.Starts.{Starts}
use Rattle.verdict.proofs.subject.Judged.frame.Given as goal

abbrev pub invariant-loop-j : goal.invariant-loop-j
invariant-loop-j g l =
    (l.starts.origin ≡ l.initial.starts.origin) × Starts (piece_at l.self.width l.self.page.now l.self.header) l.starts.origin l.j l.starts.cells
