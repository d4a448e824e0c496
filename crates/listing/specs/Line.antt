-- A text in the making, as contracts see it.
use Rattle.std.specs.Prelude.{ℕ, List, [], ◌+◌, ◌++◌, ◌≡◌, length}

-- the bytes that stand, and how many more there is room for
pub record Line : Type 0 where
  pub text : List ℕ
  pub room : ℕ

-- b is a with more text behind it
pub record Adds (a : Line) (more : List ℕ) (b : Line) : Type 0 where
  pub text : b.text ≡ a.text ++ more
  pub room : length more + b.room ≡ a.room

-- no text stands, and there is room for n bytes
abbrev pub Fresh : Line → ℕ → Type 0
Fresh a n = (a.text ≡ []) × (a.room ≡ n)
