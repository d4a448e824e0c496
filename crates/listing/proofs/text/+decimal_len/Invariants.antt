-- Each call has four digits less.
use Rattle.listing.proofs.text.+decimal_len.Given as goal

abbrev pub decreases-decimal_len : goal.decreases-decimal_len
decreases-decimal_len l = l.n
