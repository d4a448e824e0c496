-- A long prefix is not inline; a short one is put whole, through the part of the page from byte 48 on.
use Rattle.edit.proofs.BegunRuns.{rest_put, inline-long, inline-short}
use Rattle.edit.proofs.fences.put_inline.Goals as goal

pub returns-then-prefix-gt16 : goal.returns-then-prefix-gt16
returns-then-prefix-gt16 c = inline-long _ c.args.prefix.now c.if-prefix-gt16.true

pub returns : goal.returns
returns c =
    let prefix = c.args.prefix.now in
    inline-short _ prefix _ c.if-prefix-gt16.false (rest_put _ _ prefix _ c.copy_in.ensures)
