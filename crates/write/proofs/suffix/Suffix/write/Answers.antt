-- A short suffix takes no byte; a long one is written piece after piece.
use Rattle.std.proofs.Common.{sym, ◌∙◌, arith, length}
use Rattle.paper.proofs.Same.{body_bytes_short, body_bytes_long}
use Rattle.write.proofs.Joins.{long_room, both_written}
use Rattle.write.proofs.Writes.{short_written}
use Rattle.write.proofs.suffix.Suffix.write.Goals as goal

pub returns-then-n-le4 : goal.returns-then-n-le4
returns-then-n-le4 c =
    let short = rw c.len-n.ensures.0 at c.if-n-le4.true in
    record { value = sym (body_bytes_short 4 _ short); part_after = short_written _ _ short }

pub copy_in-requires : goal.copy_in-requires
copy_in-requires c = omega (arith, long_room c.self.inside.lead.now c.self.inside.rest.now c.args.self.now c.self.view_is (length c.args.part.now) (rw c.len-n.ensures.0 at c.if-n-le4.false) c.requires)

pub copy_in-requires-2 : goal.copy_in-requires-2
copy_in-requires-2 c = omega (arith, long_room c.self.inside.lead.now c.self.inside.rest.now c.args.self.now c.self.view_is (length c.args.part.now) (rw c.len-n.ensures.0 at c.if-n-le4.false) c.requires)

pub returns : goal.returns
returns c =
    let long = rw c.len-n.ensures.0 at c.if-n-le4.false in
    record {
      value = c.len-n.ensures.0 ∙ sym (body_bytes_long 4 _ long);
      part_after = rw (c.copy_in-2.ensures, c.copy_in.ensures) (both_written _ _ _ c.self.view_is _ long);
    }
