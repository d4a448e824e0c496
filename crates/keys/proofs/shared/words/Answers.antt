-- What agrees up to the end of the shorter key is all that they share.
use Rattle.std.proofs.Common.{sym, ◌∙◌, arith, leb-true}
use Rattle.keys.proofs.Methods.{reach-end}
use Rattle.keys.proofs.shared.words.Goals as goal

pub returns : goal.returns
returns c = reach-end _ _ _ _ c.requires.1 (omega (arith, leb-true _ _ (sym c.agree-2.ensures ∙ c.if-not-agree-2.false)))
