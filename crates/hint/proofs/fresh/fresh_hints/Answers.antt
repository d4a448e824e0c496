-- Eight heads at equal distances are the fresh hints.
use Rattle.std.proofs.Common.{◌≡◌, refl, ◌/◌, rules}
use Rattle.hint.proofs.Runs.{tabled}
use Rattle.paper.specs.Hints.{fresh}
use Rattle.hint.proofs.fresh.fresh_hints.Goals as goal

pub returns : goal.returns
unfolding fresh
returns c = tabled _ (λ s. (s.0.now ≡ c.args.p.now) × (s.1.now ≡ c.args.count / 9)) _ (λ p q i y s call. search rules) _ _ _ (refl, cc) c.from_fn.ensures.items
