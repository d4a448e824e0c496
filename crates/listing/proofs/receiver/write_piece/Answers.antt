use Rattle.listing.proofs.Telling.{writing-on, writing-kept}
use Rattle.listing.proofs.receiver.write_piece.Goals as goal
use Rattle.listing.proofs.receiver.write_piece.Goals.{in-Ok, in-Err}

pub loop-preserved : goal.loop-preserved
loop-preserved g c =
    elim c.match-write.branch [
      | in-Ok w ↦ rw w.rest-is (writing-on _ _ _ c.args.piece.now c.loop.rest.now _ c.loop.invariant w.in-Ok.ensures.bytes)
      | in-Err w ↦ rw w.rest-is (writing-kept _ _ _ c.args.piece.now c.loop.rest.now c.loop.invariant w.in-Err.ensures.bytes)
    ]
