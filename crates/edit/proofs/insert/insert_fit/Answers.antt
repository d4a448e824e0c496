-- A refusal leaves the page; a slot that was found has the room that the write asks for.
use Rattle.std.proofs.Common.{sym, ◌∙◌, rules}
use Rattle.paper.proofs.Holding.{handed_on}
use Rattle.edit.proofs.Inserted.{insert-kept, insert-room, insert-done}
use Rattle.edit.proofs.insert.insert_fit.Goals as goal

pub returns-in_err-i : goal.returns-in_err-i
returns-in_err-i c = rw (handed_on c.from_residual.result _ c.from_residual.ensures.1) (record { value = sym c.in_err-i.was ∙ c.place.ensures; p_after = insert-kept _ _ _ _ _ (sym c.place.ensures ∙ c.in_err-i.was) })

pub insert_at-requires : goal.insert_at-requires
insert_at-requires c =
    insert-room _ _ _ _ _ (sym c.place.ensures ∙ c.in_ok-i.was) _ c.suffix-suffix.ensures c.requires
    (search rules)

pub returns : goal.returns
returns c =
    let placed = c.place.ensures in
    let told = c.in_ok-i.was in
    record { value = sym told ∙ placed; p_after = insert-done _ _ _ _ _ (sym placed ∙ told) _ c.suffix-suffix.ensures _ c.insert_at.ensures }
