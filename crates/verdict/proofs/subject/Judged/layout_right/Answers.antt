-- An empty leaf first, then U2 and U3, then the order.
use Rattle.std.proofs.Common.{sym, ◌∙◌}
use Rattle.verdict.proofs.Fitting.{layout_leaf, layout-err, layout-ok}
use Rattle.verdict.proofs.subject.Judged.layout_right.Goals as goal

pub returns-then-empty_leaf : goal.returns-then-empty_leaf
returns-then-empty_leaf c =
    let s = c.args.self.now in
    layout_leaf s.width s.page.now s.header s.rules (sym c.empty_leaf.ensures ∙ c.if-empty_leaf.true)

pub returns-in-Ok : goal.returns-in-Ok
returns-in-Ok c =
    let s = c.args.self.now in
    layout-ok s.width s.page.now s.header s.rules (sym c.empty_leaf.ensures ∙ c.if-empty_leaf.false) _ (sym c.in-Ok.ensures) _ c.in_order.ensures

pub returns-in-Err : goal.returns-in-Err
returns-in-Err c =
    let s = c.args.self.now in
    layout-err s.width s.page.now s.header s.rules (sym c.empty_leaf.ensures ∙ c.if-empty_leaf.false) _ (sym c.in-Err.ensures)
