-- The common prefix is no longer than either fence, so both are cut; runs, header and inline prefix are the page begun.
use Rattle.std.proofs.Common.{sym, arith, length-take-le}
use Rattle.node.proofs.Spaces.{prefix-le}
use Rattle.edit.specs.Begins.{given}
use Rattle.edit.proofs.Begun.{cut-room, end-most, begun-is}
use Rattle.edit.proofs.begin.Beginning.write.Goals as goal

pub slice_bounds-prefix-end : goal.slice_bounds-prefix-end
slice_bounds-prefix-end c = sym (length-take-le _ c.self.inside.lower.now (prefix-le _ _ _ (rw (← c.self.view_is) at c.requires.3)).0)

pub slice_bounds-put_fences-count : goal.slice_bounds-put_fences-count
slice_bounds-put_fences-count c = (prefix-le _ _ _ (rw (← c.self.view_is) at c.requires.3)).0

pub slice_bounds-put_fences-start : goal.slice_bounds-put_fences-start
slice_bounds-put_fences-start c = (prefix-le _ _ _ (rw (← c.self.view_is) at c.requires.3)).0

pub slice_bounds-put_fences-count-2 : goal.slice_bounds-put_fences-count-2
slice_bounds-put_fences-count-2 c = (prefix-le _ _ _ (rw (← c.self.view_is) at c.requires.3)).1

pub slice_bounds-put_fences-start-2 : goal.slice_bounds-put_fences-start-2
slice_bounds-put_fences-start-2 c = (prefix-le _ _ _ (rw (← c.self.view_is) at c.requires.3)).1

pub put_fences-f-requires : goal.put_fences-f-requires
put_fences-f-requires c =
    let pre = rw (← c.self.view_is) at c.requires in
    let cut = cut-room c.self.inside.lower.now c.self.inside.upper.now _ (prefix-le _ _ _ pre.3).0 pre.1 pre.2 pre.4 in
    (pre.0, cut.0, cut.1, cut.2)

pub overflow_cast-n : goal.overflow_cast-n
overflow_cast-n c = omega (arith, prefix-le _ _ _ c.requires.3, c.requires.1)

pub header-requires : goal.header-requires
header-requires c = end-most _ _ _ _ c.put_fences-f.ensures.value

pub put_inline-requires : goal.put_inline-requires
put_inline-requires c = omega (arith, c.write_header.auto.p, c.put_fences-f.auto.p, c.requires.0)

pub returns : goal.returns
returns c =
    let pre = rw (← c.self.view_is) at c.requires in
    rw (← c.self.view_is)
    (begun-is (given _ _ c.self.inside.lower.now _ c.self.inside.upper.now _) _ pre.3 pre.4 _ _ _ _ _ _ (c.put_fences-f.ensures.value, c.put_fences-f.ensures.p_after)
    (rw (← c.self.view_is) at c.header.ensures) c.write_header.ensures c.put_inline.ensures)
