-- What was read decides where the payload goes; the writes one after the other are the paper's page.
use Rattle.octets.proofs.Clauses.{named_value_p_after}
use Rattle.write.proofs.Rekeys.{place_or, seat-room, seat-put, seat-dropped, rekey-written}
use Rattle.write.proofs.change.rekey_at.Goals as goal

pub new_place-place-requires : goal.new_place-place-requires
new_place-place-requires c = seat-room _ _ _ _ _ c.requires _ c.read_slot-old.ensures

pub put_key-requires : goal.put_key-requires
put_key-requires c = seat-put _ _ _ _ _ c.requires _ c.read_slot-old.ensures _ (place_or _ _ _ _ _ c.new_place-place.ensures c.unwrap_or.ensures)

pub rekeyed-changed-requires : goal.rekeyed-changed-requires
rekeyed-changed-requires c = (c.requires.suffix, c.requires.effective, seat-dropped _ _ _ _ _ c.requires _ c.read_slot-old.ensures)

pub returns : goal.returns
returns c = named_value_p_after (rekey-written _ _ _ _ _ c.requires _ c.read_slot-old.ensures
    _ (place_or _ _ _ _ _ c.new_place-place.ensures c.unwrap_or.ensures) _ c.put_key.ensures
    _ (place_or _ _ _ _ _ c.new_place-place.ensures c.unwrap_or-2.ensures) _ c.rekeyed-changed.ensures _ c.write_numbers.ensures)
