-- The source's prefix is its own, and what was compared are both prefixes.
use Rattle.edit.proofs.RunKeys.{prefix-own, shown-own, meeting}
use Rattle.edit.proofs.copy.Run.between.Goals as goal

pub invariant_of-result : goal.invariant_of-result
invariant_of-result c =
    let pre = c.requires in
    record {
      fenced = pre.0;
      shown = shown-own _ _ pre.1 _ c.prefix-prefix.ensures;
      own = prefix-own _ _ pre.1 _ c.prefix-prefix.ensures;
      meeting = meeting _ _ pre.0 _ _ c.prefix-whole.ensures _ c.min-cut.ensures _ c.equal-alike.ensures;
    }
