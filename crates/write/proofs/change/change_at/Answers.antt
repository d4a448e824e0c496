-- The header that came back is the changed page's, so its flag and count are those that the refresh goes by.
use Rattle.std.proofs.Common.{arith}
use Rattle.paper.specs.Edits.{key_changed}
use Rattle.write.proofs.Filings.{refresh_by}
use Rattle.write.proofs.Rekeys.{rekeyed-slots, rekey-header}
use Rattle.write.proofs.change.change_at.Goals as goal

pub refresh-requires : goal.refresh-requires
refresh-requires c = omega (arith, c.requires.size, rekeyed-slots c.args.width c.args.p.now c.args.h c.args.i c.args.suffix.now c.requires c.rekey_at-changed.result c.rekey_at-changed.ensures.value)

pub returns : goal.returns
unfolding key_changed
returns c =
    rw (c.refresh.ensures, c.rekey_at-changed.ensures.p_after)
    (refresh_by _ _ (rekey-header _ _ _ _ _ c.requires _ c.rekey_at-changed.ensures.value))
