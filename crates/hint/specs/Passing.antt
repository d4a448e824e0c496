-- What a test of hints, handed in as a closure, decides.
use Rattle.std.specs.Prelude.{ℕ, Bool, ◌≡◌, ◌<◌, ◌^◌}

-- at each hint the closure, whose answers are those of post, answers as test does
abbrev pub Decides : (ℕ → Bool → Type 0) → (ℕ → Bool) → Type 0
Decides post test = (h : ℕ) (b : Bool) → h < 2 ^ 32 → post h b → b ≡ test h
