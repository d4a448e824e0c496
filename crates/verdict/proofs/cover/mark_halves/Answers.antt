-- Two numbers of four marks reach from a to b.
use Rattle.verdict.proofs.Covers.{marked_halves}
use Rattle.verdict.proofs.cover.mark_halves.Goals as goal

pub returns : goal.returns
returns c =
    let pre = c.requires in
    marked_halves _ _ _ _ _ pre.0 pre.1 pre.2 c.write_u32.ensures c.write_u32-2.ensures
