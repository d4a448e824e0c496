-- What a sink is after text went to it.
use Rattle.std.specs.Prelude.{ℕ, ◌+◌, ◌*◌, ◌%◌, List, [], ◌∷◌, eqb, ◌≡◌, ◌++◌, Option}
use Rattle.std.specs.Io.KnownBytes.{Appends}
use Rattle.keys.specs.Choice.{pick}
use Rattle.listing.specs.declared.sink.Sink.{Sink}
use Rattle.listing.specs.declared.sink.Mode.{Mode}
use Rattle.listing.specs.declared.sink.Mode.TheVariants.{Printed, Summed}

-- 0 is printed
abbrev pub mode_of : ℕ → Mode
mode_of m = pick (eqb m 0) Printed Summed

-- a sink from its numbers
abbrev pub sink : ℕ → ℕ → ℕ → ℕ → Sink
sink m a b n = record { mode = m; h1 = a; h2 = b; len = n }

-- one that no byte went to
unfoldable pub begun : ℕ → Sink
begun m = sink m 0 0 0

-- one byte more in the sums
unfoldable pub added : Sink → ℕ → Sink
added s x = sink s.mode ((31 * s.h1 + x + 1) % 4294967291) ((37 * s.h2 + x + 1) % 4294967279) ((s.len + 1) % 4294967296)

-- the sink after a text; one that prints stays as it is
unfoldable pub told : Sink → List ℕ → Sink
told s [] = s
told s (x ∷ l) = told (pick (eqb s.mode 0) s (added s x)) l

-- what a sink of mode m prints of a text: all of it at mode 0, and at any other nothing
unfoldable pub shown : ℕ → List ℕ → List ℕ
shown m l = pick (eqb m 0) l []

-- what is left of a writer that failed at a text l: its known bytes a became b, which are a and a front of l behind it
pub record Stopped (a b : Option (List ℕ)) (l : List ℕ) : Type 0 where
  pub front : List ℕ
  pub rest : List ℕ
  pub whole : l ≡ front ++ rest
  pub bytes : Appends a b front
