-- Each way out is a case of the judgement, with the tests before it; where all held the page is the one begun.
use Rattle.std.proofs.Common.{sym, ◌∙◌, arith}
use Rattle.node.proofs.Spaces.{prefix-le}
use Rattle.edit.proofs.Begun.{begin-size, begin-lower, begin-upper, begin-order, begin-full, begin-done}
use Rattle.octets.proofs.Clauses.{named_value_p_after}
use Rattle.edit.proofs.begin.begin.Goals as goal
use Rattle.edit.proofs.begin.begin.Goals.{then-lower-gt65535-via-then-lower-gt65535, then-lower-gt65535-via-else-lower-gt65535+then-upper-gt65535}

pub returns-then-p-ne16384 : goal.returns-then-p-ne16384
returns-then-p-ne16384 c = named_value_p_after (begin-size _ _ c.if-p-ne16384.true)

pub returns-then-lower-gt65535 : goal.returns-then-lower-gt65535
returns-then-lower-gt65535 c =
    named_value_p_after (elim c.then-lower-gt65535.branch [
      | then-lower-gt65535-via-then-lower-gt65535 w ↦ begin-lower _ _ c.if-p-ne16384.false w.if-lower-gt65535.true
      | then-lower-gt65535-via-else-lower-gt65535+then-upper-gt65535 w ↦ begin-upper _ _ c.if-p-ne16384.false w.if-lower-gt65535.false w.if-upper-gt65535.true
    ])

pub returns-then-not-in_order : goal.returns-then-not-in_order
returns-then-not-in_order c =
    named_value_p_after (begin-order _ _ c.if-p-ne16384.false c.if-lower-gt65535.false c.if-upper-gt65535.false
    (sym c.in_order.ensures ∙ c.if-not-in_order.true))

pub overflow_sub-lower : goal.overflow_sub-lower
overflow_sub-lower c = (prefix-le _ _ _ c.common_prefix_len-n.ensures).0

pub overflow_sub-upper : goal.overflow_sub-upper
overflow_sub-upper c = (prefix-le _ _ _ c.common_prefix_len-n.ensures).1

pub fence_bytes-requires : goal.fence_bytes-requires
fence_bytes-requires c = let n = prefix-le _ _ _ c.common_prefix_len-n.ensures in (omega arith, omega arith, omega arith)

pub returns-then-fence_bytes-gt16256 : goal.returns-then-fence_bytes-gt16256
returns-then-fence_bytes-gt16256 c =
    named_value_p_after (begin-full _ _ c.if-p-ne16384.false c.if-lower-gt65535.false c.if-upper-gt65535.false
    (sym c.in_order.ensures ∙ c.if-not-in_order.false) _ _ c.common_prefix_len-n.ensures
    c.fence_bytes.ensures.0 c.if-fence_bytes-gt16256.true)

pub returns : goal.returns
returns c =
    named_value_p_after (begin-done _ _ c.if-p-ne16384.false c.if-lower-gt65535.false c.if-upper-gt65535.false
    (sym c.in_order.ensures ∙ c.if-not-in_order.false) _ _ c.common_prefix_len-n.ensures
    c.fence_bytes.ensures.0 c.if-fence_bytes-gt16256.false _ c.write.ensures)
