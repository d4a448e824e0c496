-- The sums of a text.
use Rattle.std.specs.Prelude.{ℕ, ◌+◌, ◌*◌, ◌%◌, List}
use Rattle.std.specs.List.{fold}
use Rattle.listing.specs.declared.receiver.Sums.{Sums}

-- one byte more in the sums
abbrev pub one_more : Sums → ℕ → Sums
one_more s x = record { h1 = (31 * s.h1 + x + 1) % 4294967291; h2 = (37 * s.h2 + x + 1) % 4294967279; len = (s.len + 1) % 4294967296 }

-- the bytes of a text, one after the other
abbrev pub summed : Sums → List ℕ → Sums
summed s l = fold one_more s l
