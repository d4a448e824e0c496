-- Each run ends where the one before it begins, and there is room for the three; with both slots they are `runs_put`.
use Rattle.edit.proofs.BegunRuns.{runs_room, runs_put}
use Rattle.std.proofs.Common.{arith}
use Rattle.octets.proofs.Clauses.{named_value_p_after}
use Rattle.edit.proofs.fences.put_fences.Goals as goal

pub put_below-top-requires : goal.put_below-top-requires
put_below-top-requires c = (omega (arith, c.requires.0), (runs_room _ _ _ c.requires.3).0)

pub put_below-middle-requires : goal.put_below-middle-requires
put_below-middle-requires c =
    let top = c.put_below-top in
    let room = runs_room _ _ _ c.requires.3 in
    (omega (arith, c.requires.0, top.auto.p, top.ensures.value), rw top.ensures.value room.1)

pub put_below-end-requires : goal.put_below-end-requires
put_below-end-requires c =
    let middle = c.put_below-middle in
    let top = c.put_below-top in
    let room = runs_room _ _ _ c.requires.3 in
    (omega (arith, c.requires.0, middle.auto.p, top.auto.p, middle.ensures.value, top.ensures.value), rw (middle.ensures.value, top.ensures.value) room.2)

pub returns : goal.returns
returns c =
    named_value_p_after (runs_put _ c.args.prefix.now c.args.lower.now c.args.upper.now _ _ _ _ _ _ _ _ (c.put_below-top.ensures.value, c.put_below-top.ensures.p_after) (c.put_below-middle.ensures.value, c.put_below-middle.ensures.p_after)
    (c.put_below-end.ensures.value, c.put_below-end.ensures.p_after) c.fence_slot.ensures c.fence_slot-2.ensures)
