-- Each way out is one law: the value is too large, the key lacks the prefix or lies outside the fences, or what the search of a fit page finds.
use Rattle.std.proofs.Common.{refl, sym, ◌∙◌, eqb-true}
use Rattle.search.proofs.Asked.{inside_asked}
use Rattle.paper.proofs.Holding.{handed_on}
use Rattle.edit.specs.Inserts.{place_by}
use Rattle.edit.proofs.Testing.{tested-rules, class-asked, find-asked}
use Rattle.edit.proofs.Inserted.{place_found}
use Rattle.edit.proofs.insert.place.Goals as goal

pub within-requires : goal.within-requires
within-requires c = class-asked _ _ _ c.requires _ c.read_u16.ensures

pub inside-requires : goal.inside-requires
inside-requires c = let T = c.requires in inside_asked _ (tested-rules _ _ _ T) T.size

pub find_at-requires : goal.find_at-requires
find_at-requires c = find-asked _ _ _ c.requires

pub returns-in_err-found : goal.returns-in_err-found
unfolding place_by
returns-in_err-found c =
    let fits = c.fits_width in
    let inside = c.inside in
    rw (handed_on c.from_residual.result _ c.from_residual.ensures.1)
    (sym
    (place_found _ _ _ _ c.requires _ fits.ensures c.if-not-fits_width.false _ c.read_u16.ensures _ refl
    (eqb-true _ _ (sym c.within.ensures ∙ c.if-not-within.false)) _ c.suffix-suffix.ensures _ inside.ensures c.if-not-inside.false _ c.read_u16-2.ensures _ c.read_u16-3.ensures _
    c.has_room-room.ensures (λ i. (c.type_inv.p i).fits) (λ i. (c.type_inv.key i).fits) _ (sym c.in_err-found.was ∙ c.find_at.ensures)))

pub returns : goal.returns
returns c =
    let fits = c.fits_width in
    let inside = c.inside in
    c.place_by.ensures
    ∙ sym
    (place_found _ _ _ _ c.requires _ fits.ensures c.if-not-fits_width.false _ c.read_u16.ensures _ refl
    (eqb-true _ _ (sym c.within.ensures ∙ c.if-not-within.false)) _ c.suffix-suffix.ensures _ inside.ensures c.if-not-inside.false _ c.read_u16-2.ensures _ c.read_u16-3.ensures _
    c.has_room-room.ensures (λ i. (c.type_inv.p i).fits) (λ i. (c.type_inv.key i).fits) _ (sym c.in_ok-found.was ∙ c.find_at.ensures))
