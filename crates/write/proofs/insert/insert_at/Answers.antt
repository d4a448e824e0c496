-- The header that was read has the room; the one that came back is the filed page's, so its flag and count are those that the refresh goes by.
use Rattle.std.proofs.Common.{arith}
use Rattle.paper.specs.Edits.{inserted}
use Rattle.write.proofs.Filings.{room_read, filed-slots, file-header, refresh_by}
use Rattle.write.proofs.insert.insert_at.Goals as goal

pub refresh-requires : goal.refresh-requires
refresh-requires c =
    omega (
      arith,
      c.requires.size,
      filed-slots c.args.width c.args.p.now c.read_header-h.result c.args.i c.args.suffix.now c.args.value
          (room_read _ _ _ _ _ c.read_header-h.ensures c.requires) c.file_at-filed.result c.file_at-filed.ensures.value,
    )

pub returns : goal.returns
unfolding inserted
returns c =
    rw (c.refresh.ensures, c.file_at-filed.ensures.p_after)
    (refresh_by _ _ (file-header _ _ _ _ _ _ (room_read _ _ _ _ _ c.read_header-h.ensures c.requires) _ c.file_at-filed.ensures.value))
