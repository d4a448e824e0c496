-- Each refusal of the first tests is a case of the judgement; with both pages fit the rest is the other half.
use Rattle.std.proofs.Common.{sym, ◌∙◌}
use Rattle.paper.proofs.Holding.{handed_on}
use Rattle.edit.proofs.RunCalls.{fit-told, run-size, run-source, run-width, run-unfit, run-unfit-source, run-fitted}
use Rattle.octets.proofs.Clauses.{named_value_p_after}
use Rattle.edit.proofs.copy.copy_run.Goals as goal

pub returns-then-p-ne16384 : goal.returns-then-p-ne16384
returns-then-p-ne16384 c = named_value_p_after (run-size c.args.width _ _ c.args.a c.args.n c.if-p-ne16384.true)

pub returns-then-q-ne16384 : goal.returns-then-q-ne16384
returns-then-q-ne16384 c = named_value_p_after (run-source c.args.width _ _ c.args.a c.args.n c.if-p-ne16384.false c.if-q-ne16384.true)

pub returns-then-not-known_width : goal.returns-then-not-known_width
returns-then-not-known_width c = named_value_p_after (run-width c.args.width _ _ c.args.a c.args.n c.if-p-ne16384.false c.if-q-ne16384.false (sym c.known_width.ensures ∙ c.if-not-known_width.true))

pub returns-in_err-h : goal.returns-in_err-h
returns-in_err-h c =
    rw (handed_on c.from_residual.result _ c.from_residual.ensures.1)
    (named_value_p_after (run-unfit c.args.width _ _ c.args.a c.args.n c.if-p-ne16384.false c.if-q-ne16384.false (sym c.known_width.ensures ∙ c.if-not-known_width.false) _ (sym c.fit_header.ensures ∙ c.in_err-h.was)))

pub returns-in_err-g : goal.returns-in_err-g
returns-in_err-g c =
    rw (handed_on c.from_residual-in_err-g.result _ c.from_residual-in_err-g.ensures.1)
    (named_value_p_after (run-unfit-source c.args.width _ _ c.args.a c.args.n c.if-p-ne16384.false c.if-q-ne16384.false (sym c.known_width.ensures ∙ c.if-not-known_width.false) _ (sym c.fit_header.ensures ∙ c.in_ok-h.was) _
    (sym c.fit_header-2.ensures ∙ c.in_err-g.was)))

pub copy_fit-requires : goal.copy_fit-requires
copy_fit-requires c =
    let here = fit-told _ _ _ (sym c.fit_header.ensures ∙ c.in_ok-h.was) in
    let there = fit-told _ _ _ (sym c.fit_header-2.ensures ∙ c.in_ok-g.was) in
    record { p_len = (c.if-p-ne16384.false, here.0, here.1); q_len = (c.if-q-ne16384.false, there.0, there.1, sym c.known_width.ensures ∙ c.if-not-known_width.false) }

pub returns : goal.returns
returns c =
    let done = c.copy_fit.ensures in
    named_value_p_after (run-fitted c.args.width _ _ c.args.a c.args.n c.if-p-ne16384.false c.if-q-ne16384.false (sym c.known_width.ensures ∙ c.if-not-known_width.false) _ (sym c.fit_header.ensures ∙ c.in_ok-h.was) _
    (sym c.fit_header-2.ensures ∙ c.in_ok-g.was) _ _ done.value done.p_after)
