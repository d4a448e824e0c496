-- The value is read before its bytes are written over; then payload and slot, one after the other.
use Rattle.std.proofs.Common.{add-zero}
use Rattle.octets.proofs.Put.{put_rest}
use Rattle.write.proofs.Rekeys.{value_is}
use Rattle.write.proofs.change.put_key.Goals as goal

pub returns : goal.returns
returns c = rw (c.write_slot.ensures, c.slot_for.ensures, c.write_payload.ensures, c.whole-whole.ensures, put_rest, add-zero, value_is _ _ c.args.old _ _ c.requires.0 c.value_at.ensures c.read_value-value.ensures)
