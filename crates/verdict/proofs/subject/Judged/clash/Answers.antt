use Rattle.std.proofs.Common.{refl, sym, ap, ◌∙◌, not, arith}
use Rattle.verdict.proofs.Overlaps.{clear-more, to_clear, disjoint-yes, disjoint-no}
use Rattle.verdict.proofs.subject.Judged.clash.Goals as goal

pub pairs-init : goal.pairs-init
pairs-init c = (refl, to_clear _ _ _ _ c.requires.1)

pub loop-i-preserved : goal.loop-i-preserved
loop-i-preserved c =
    let s = c.args.self.now in (
      c.loop-i.invariant.0,
      clear-more s.width s.page.now s.header _ _ _ _ _ _ c.loop-i.invariant.1 c.piece-b.ensures c.piece.ensures (sym c.touches.ensures ∙ c.if-touches.false),
    )

pub returns-after-pairs : goal.returns-after-pairs
returns-after-pairs c =
    let outer = c.pairs in
    outer.invariant.0 ∙ sym (ap not (disjoint-yes _ _ _ _ (omega arith) outer.invariant.1))

pub returns-then-touches : goal.returns-then-touches
returns-then-touches c =
    let s = c.args.self.now in
    sym
    (ap not
    (disjoint-no s.width s.page.now s.header _ _ _ _ _ _ (omega arith) c.loop-i-test.true c.piece-b.ensures
    c.piece.ensures (sym c.touches.ensures ∙ c.if-touches.true)))
