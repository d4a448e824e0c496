-- A short run is none, and a long one is put where it begins, through the part of the page from there on.
use Rattle.edit.proofs.BegunRuns.{rest-room, rest_put, below-short, below-long, long_room}
use Rattle.std.proofs.Common.{arith}
use Rattle.octets.proofs.Clauses.{named_value_p_after}
use Rattle.edit.proofs.fences.put_below.Goals as goal

pub returns-then-run-most : goal.returns-then-run-most
returns-then-run-most c = named_value_p_after (below-short _ _ _ c.args.run.now c.if-run-most.true)

pub overflow_sub-start : goal.overflow_sub-start
overflow_sub-start c = long_room _ _ _ c.if-run-most.false c.requires.1

pub copy_in-requires : goal.copy_in-requires
copy_in-requires c =
    let fits = long_room _ _ _ c.if-run-most.false c.requires.1 in
    rest-room c.args.p.now _ _ (omega (arith, fits, c.requires.0))

pub returns : goal.returns
returns c =
    let run = c.args.run.now in
    named_value_p_after (below-long _ _ _ run _ c.if-run-most.false (rest_put _ _ run _ c.copy_in.ensures))
