-- Where the sweep says nothing, the first of U2 and U3 that is broken, else the tally.
use Rattle.std.proofs.Common.{sym, ◌∙◌}
use Rattle.verdict.proofs.Fitting.{weighed-2, weighed-3, weighed-tally}
use Rattle.verdict.proofs.subject.Judged.weighed.Goals as goal

pub returns-then-not-payloads_held : goal.returns-then-not-payloads_held
returns-then-not-payloads_held c = weighed-2 _ _ _ (sym c.payloads_held.ensures ∙ c.if-not-payloads_held.true)

pub returns-then-not-disjoint : goal.returns-then-not-disjoint
returns-then-not-disjoint c = weighed-3 _ _ _ (sym c.payloads_held.ensures ∙ c.if-not-payloads_held.false) (sym c.disjoint.ensures ∙ c.if-not-disjoint.true)

pub returns : goal.returns
returns c =
    weighed-tally _ _ _ (sym c.payloads_held.ensures ∙ c.if-not-payloads_held.false) (sym c.disjoint.ensures ∙ c.if-not-disjoint.false) _
    c.tally_entries.ensures
