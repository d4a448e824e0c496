-- Why an input of the listing program is refused.
use Rattle.std.specs.Prelude.{ℕ}
use Rattle.listing.specs.declared.print.Refused.{Refused}
use Rattle.listing.specs.declared.print.Refused.TheVariants.{Length, Width}

-- the number of a refusal
abbrev pub number_of : Refused → ℕ
number_of Length = 1
number_of Width = 2
