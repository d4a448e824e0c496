-- Either way out is a side of the definition's test.
use Rattle.std.proofs.Common.{sym, ◌∙◌, arith}
use Rattle.hint.proofs.Refreshed.{used-many}
use Rattle.verdict.proofs.Ruled.{pointwise_same, hints-room, fresh-unused, fresh-used}
use Rattle.verdict.proofs.subject.Judged.hints_fresh.Goals as goal

pub returns-then-not-in_use : goal.returns-then-not-in_use
returns-then-not-in_use c = fresh-unused _ _ (sym c.in_use.ensures ∙ c.if-not-in_use.true)

pub fresh_hints-fresh-requires : goal.fresh_hints-fresh-requires
fresh_hints-fresh-requires c =
    let many = used-many _ _ (sym c.in_use.ensures ∙ c.if-not-in_use.false) in
    (omega arith, hints-room _ _ c.args.self.now.long c.args.self.now.rules)

pub returns : goal.returns
returns c = fresh-used _ _ _ _ _ (sym c.in_use.ensures ∙ c.if-not-in_use.false) c.read_hints-held.ensures c.fresh_hints-fresh.ensures (c.eq.ensures ∙ pointwise_same _ _)
