-- Where the fit verdict is 0, the lines of the entries follow.
use Rattle.listing.proofs.Joined.{fit_is}
use Rattle.listing.proofs.Going.{takes-then, stops-then, stops-in, on_ok, on_err, failed}
use Rattle.listing.proofs.print.Page.print_page.Goals as goal

pub returns-in_err-take-clause-left : goal.returns-in_err-take-clause-left
returns-in_err-take-clause-left g c =
    let all = fit_is _ _ _ _ c.requires.0 c.requires.1 _ _ _ _ _ c.if-fit-gt0.false c.read_header-h.ensures c.requires.2.0 c.verdict_line.ensures.0 c.space_line.ensures c.as_slice-2.ensures in
    failed c.from_residual.result (stops-in g.T.Receiver.stops g.met.T.Receiver.stops_within _ _ _ _ _ all c.in_err-take.ensures.left)

pub returns-clause-ok : goal.returns-clause-ok
returns-clause-ok g c =
    let all = fit_is _ _ _ _ c.requires.0 c.requires.1 _ _ _ _ _ c.if-fit-gt0.false c.read_header-h.ensures c.requires.2.0 c.verdict_line.ensures.0 c.space_line.ensures c.as_slice-2.ensures in
    on_ok c.print_entries.result (takes-then g.T.Receiver.takes _ _ _ _ _ _ all g.met.T.Receiver.takes_more c.in_ok-take.ensures.ok) c.print_entries.ensures.ok

pub returns-clause-left : goal.returns-clause-left
returns-clause-left g c =
    let all = fit_is _ _ _ _ c.requires.0 c.requires.1 _ _ _ _ _ c.if-fit-gt0.false c.read_header-h.ensures c.requires.2.0 c.verdict_line.ensures.0 c.space_line.ensures c.as_slice-2.ensures in
    on_err c.print_entries.result (stops-then g.T.Receiver.takes _ _ _ _ _ _ all g.T.Receiver.stops g.met.T.Receiver.stops_after c.in_ok-take.ensures.ok) c.print_entries.ensures.left
