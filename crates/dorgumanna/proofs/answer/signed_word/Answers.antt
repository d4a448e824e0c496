-- A number below 0 is the greatest word, any other itself.
use Rattle.std.proofs.Common.{w32, to_z, of_z, to_z-of_z}
use mir.Facts.{sfits_to_z, Fits-nat_abs, Fits-of_z}
use Rattle.dorgumanna.proofs.Signs.{word_below, word-above, not_below}
use Rattle.dorgumanna.proofs.answer.signed_word.Goals as goal

pub returns-then-n-lt0 : goal.returns-then-n-lt0
returns-then-n-lt0 c = word_below _ _ (to_z-of_z {w = w32} c.ranges.n) c.if-n-lt0.true

pub overflow_cast-result : goal.overflow_cast-result
overflow_cast-result c = (not_below (to_z w32 (of_z w32 c.args.n)) c.if-n-lt0.false, Fits-nat_abs {w = w32} tt (sfits_to_z {w = w32} (Fits-of_z {w = w32} c.ranges.n)))

pub returns : goal.returns
returns c = word-above _ _ (to_z-of_z {w = w32} c.ranges.n) c.if-n-lt0.false
