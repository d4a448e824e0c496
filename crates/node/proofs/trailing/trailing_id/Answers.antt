-- By the length of the key: none, or its last eight bytes, which stand in a long suffix, or are what `across` reads.
use Rattle.std.proofs.Common.{sym, ◌∙◌}
use Rattle.node.proofs.Trails.{trailing-short, trailing-is, trailing-long, long-within}
use Rattle.node.proofs.trailing.trailing_id.Goals as goal

pub returns-then-key_len-lt8 : goal.returns-then-key_len-lt8
returns-then-key_len-lt8 c = sym (trailing-short _ _ _ _ (sym c.open_entry-read.ensures ∙ c.in-Ok.is) _ c.read_u16-prefix_len.ensures _ c.key_len.ensures c.if-key_len-lt8.true)

pub read_be_u64-requires : goal.read_be_u64-requires
read_be_u64-requires c = long-within _ _ _ _ (sym c.open_entry-read.ensures ∙ c.in-Ok.is) _ c.suffix_end.ensures c.if-s-gt8.true

pub returns-then-s-gt8 : goal.returns-then-s-gt8
returns-then-s-gt8 c =
    sym
    (trailing-long _ _ _ _ (sym c.open_entry-read.ensures ∙ c.in-Ok.is) _ c.read_u16-prefix_len.ensures _ c.key_len.ensures _ _ c.if-key_len-lt8.false
    c.suffix_end.ensures c.if-s-gt8.true c.read_be_u64.ensures)

pub returns : goal.returns
returns c = sym (trailing-is _ _ _ _ (sym c.open_entry-read.ensures ∙ c.in-Ok.is) _ c.read_u16-prefix_len.ensures _ c.key_len.ensures _ c.if-key_len-lt8.false c.across.ensures)
