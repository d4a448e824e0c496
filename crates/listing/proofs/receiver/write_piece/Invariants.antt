-- The rest of the piece is left to be written.
use Rattle.listing.proofs.Telling.{Writing}
use Rattle.listing.proofs.receiver.write_piece.Given as goal

abbrev pub invariant-loop : goal.invariant-loop
invariant-loop g l = Writing (g.W.Write.contents l.initial.to) (g.W.Write.contents l.to) l.piece l.rest
