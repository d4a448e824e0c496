-- Each way out is one law: a value is too large, the key lacks the prefix or is not there, or its slot tested. That the search is refused is absurd.
use Rattle.std.proofs.Common.{refl, sym, ap, ◌∙◌, eqb-true, Ok}
use Rattle.edit.proofs.Testing.{class-asked, find-asked}
use Rattle.edit.proofs.Replaced.{held-asked, held_found}
use Rattle.edit.proofs.set.find_held.Goals as goal

pub within-requires : goal.within-requires
within-requires c = class-asked _ _ _ c.requires _ c.read_u16.ensures

pub find_at-requires : goal.find_at-requires
find_at-requires c = find-asked _ _ _ c.requires

pub held_at-requires : goal.held_at-requires
held_at-requires c =
    let old = c.fits_width in
    let new = c.fits_width-2 in
    (held-asked _ _ _ _ _ c.requires _ old.ensures c.if-not-fits_width.false _ new.ensures
    c.if-not-fits_width-2.false _ c.read_u16.ensures _ refl (eqb-true _ _ (sym c.within.ensures ∙ c.if-not-within.false)) _ c.suffix.ensures
    (λ i. (c.type_inv.p i).fits) (λ i. (c.type_inv.key i).fits) _ c.find_at.ensures _ (c.in_ok-found.was ∙ ap Ok c.in-Equal.is))

pub returns-in-Equal : goal.returns-in-Equal
returns-in-Equal c =
    let old = c.fits_width in
    let new = c.fits_width-2 in
    c.held_at.ensures ∙ sym
    (held_found _ _ _ _ _ c.requires _ old.ensures c.if-not-fits_width.false _ new.ensures
    c.if-not-fits_width-2.false _ c.read_u16.ensures _ refl (eqb-true _ _ (sym c.within.ensures ∙ c.if-not-within.false)) _ c.suffix.ensures
    (λ i. (c.type_inv.p i).fits) (λ i. (c.type_inv.key i).fits) _ c.find_at.ensures _ (c.in_ok-found.was ∙ ap Ok c.in-Equal.is))
