-- Either answer is the case of the definition that the test picked.
use Rattle.std.proofs.Common.{◌∙◌, rules, ltb}
use Rattle.hint.proofs.Windows.{high-none, high-some}
use Rattle.hint.proofs.window.window_high.Goals as goal

pub returns-then-up-eq8 : goal.returns-then-up-eq8
returns-then-up-eq8 c =
    let up = c.first_hint-up.ensures.first (ltb c.args.head) (search rules) in c.from.ensures ∙ high-none _ _ _ _ up c.if-up-eq8.true

pub returns : goal.returns
returns c =
    let up = c.first_hint-up.ensures.first (ltb c.args.head) (search rules) in rw c.from-2.ensures (high-some _ _ _ _ up c.if-up-eq8.false)
