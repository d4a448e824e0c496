-- The source's prefix and suffix without the destination's prefix are the two pieces.
use Rattle.std.proofs.Common.{arith}
use Rattle.node.proofs.Spelling.{suffix-room}
use Rattle.write.proofs.Recuts.{entry-within, entry-value, cut-is, cut-room}
use Rattle.write.proofs.copy.append.Goals as goal

pub read_value-value-requires : goal.read_value-value-requires
read_value-value-requires c = rw c.value_at.ensures (entry-within _ _ _ _ c.args.source.now.readable _ c.read_slot-s.ensures c.requires.there)

pub suffix-requires : goal.suffix-requires
suffix-requires c =
    let within = entry-within _ _ _ _ c.args.source.now.readable _ c.read_slot-s.ensures c.requires.there in
    ((λ l. suffix-room _ _ _ l (omega arith)), c.head_bytes-four.ensures)

pub cut-cut-requires : goal.cut-cut-requires
cut-cut-requires c = cut-room _ _ _ _ c.args.source.now.readable _ c.read_slot-s.ensures c.args.h _ _ c.prefix.ensures c.suffix.ensures _ c.requires.room

pub file-requires : goal.file-requires
file-requires c = rw (cut-is _ _ _ _ c.args.source.now.readable _ c.read_slot-s.ensures c.args.h _ _ c.prefix.ensures c.suffix.ensures _ c.cut-cut.ensures) c.requires.room

pub returns : goal.returns
returns c =
    let key = cut-is _ _ _ _ c.args.source.now.readable _ c.read_slot-s.ensures c.args.h _ _ c.prefix.ensures c.suffix.ensures _ c.cut-cut.ensures in
    let value = entry-value _ _ _ _ c.args.source.now.readable _ c.read_slot-s.ensures _ _ c.value_at.ensures c.read_value-value.ensures in
    record { value = rw key at c.file.ensures.value; p_after = rw (key, value) at c.file.ensures.p_after }
