-- A sign or a slot number as a word. A signed local is read back from its bits, so each law speaks of a y that is z.
use Rattle.std.proofs.Common.{◌≡◌, refl, sym, ap, subst, ◌∙◌, true, false, T, ltb→lt, ℤ, pos, negsuc, nat_abs, not-suc-le-zero}
use lib.Signed.{lt_z, non_neg}
use Rattle.dorgumanna.specs.Told.{word}

below : (z : ℤ) → lt_z z (pos 0) ≡ true → 18446744073709551615 ≡ word z
unfolding word
below (pos n) e = absurd (not-suc-le-zero (ltb→lt n 0 (subst T (sym e) tt)))
below (negsuc n) e = refl

above : (z : ℤ) → lt_z z (pos 0) ≡ false → nat_abs z ≡ word z
unfolding word
above (pos n) e = refl
above (negsuc n) e = absurd (subst T e tt)

-- a number below 0
pub word_below : (y z : ℤ) → y ≡ z → lt_z y (pos 0) ≡ true → 18446744073709551615 ≡ word z
word_below y z same e = below y e ∙ ap word same

-- any other number is itself
pub word-above : (y z : ℤ) → y ≡ z → lt_z y (pos 0) ≡ false → nat_abs y ≡ word z
word-above y z same e = above y e ∙ ap word same

pub not_below : (y : ℤ) → lt_z y (pos 0) ≡ false → T (non_neg y)
not_below (pos n) e = tt
not_below (negsuc n) e = absurd (subst T e tt)
