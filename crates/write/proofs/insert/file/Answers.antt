-- Payload, slot and numbers written one after the other are the paper's page.
use Rattle.std.proofs.Common.{add-zero}
use Rattle.octets.proofs.Put.{put_rest}
use Rattle.write.proofs.Filings.{file-written}
use Rattle.write.proofs.insert.file.Goals as goal

pub returns-clause-p_after : goal.returns-clause-p_after
returns-clause-p_after c =
    let filed = rw c.len.ensures.0 at c.filed-filed.ensures.value in
    rw (c.write_numbers.ensures, c.move_in.ensures, c.slot_for.ensures, c.write_payload.ensures, put_rest, add-zero)
    (file-written _ _ _ _ _ _ c.requires _ filed)
