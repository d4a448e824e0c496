-- Eight numbers at their places are the hints.
use Rattle.std.proofs.Common.{◌≡◌, refl, rules}
use Rattle.hint.proofs.Runs.{tabled}
use Rattle.paper.specs.Page.{hints_of}
use Rattle.hint.proofs.hints.read_hints.Goals as goal

pub returns : goal.returns
unfolding hints_of
returns c = tabled _ (λ s. s.0.now ≡ c.args.p.now) _ (λ p q i y s call. search rules) _ _ _ refl c.from_fn.ensures.items
