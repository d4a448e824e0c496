-- A page of the right length at a known width is refused no verdict.
use Rattle.std.proofs.Common.{◌∙◌, ap, false}
use Rattle.std.specs.Result.{result_unwrap_or}
use Rattle.listing.proofs.Joined.{layout-given, fit-given}
use Rattle.listing.proofs.print.print_input.Goals as goal

pub print_page-requires : goal.print_page-requires
print_page-requires g c =
    let page = c.in-Ok.page in
    let layout = c.unwrap_or-layout.ensures ∙ ap (λ v. result_unwrap_or v false) c.layout_verdict.ensures ∙ layout-given _ _ page.whole page.known in
    let fit = c.unwrap_or-fit.ensures ∙ ap (λ v. result_unwrap_or v 0) c.fit_verdict.ensures ∙ fit-given _ _ page.whole page.known in
    (layout, fit, c.new-text.ensures)
