-- From 8 on there are no hints.
use Rattle.std.proofs.Common.{◌≡◌, arith, rules, length}
use Rattle.hint.proofs.Windows.{first-none}
use Rattle.hint.proofs.window.first_hint.Goals as goal

pub loop-i-init : goal.loop-i-init
loop-i-init g c =
    let l : length c.args.hints ≡ 8 = search rules in (omega arith, λ test d. omega (arith, first-none test c.args.hints 8 (omega arith)))
