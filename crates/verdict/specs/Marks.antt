-- The first pieces of a page, and a map of bytes with a mark, a byte above 0, at each byte of the pieces that were entered.
use Rattle.std.specs.Prelude.{ℕ, ◌≤◌, ◌<◌, ◌≡◌, Bool, List, get_or}
use Rattle.paper.specs.Lists.{tab, pairs}
use Rattle.paper.specs.Verdicts.{apart}
use Rattle.paper.specs.declared.page.Header.{Header}
use Rattle.verdict.specs.Pieces.{piece_at}

-- the first n pieces are disjoint
unfoldable pub disjoint_to : ℕ → List ℕ → Header → ℕ → Bool
disjoint_to w p h n = pairs apart (tab n (piece_at w p h))

-- no byte of a..b is marked
pub record Free (m : List ℕ) (a b : ℕ) : Type 0 where
  pub none : (k : ℕ) → a ≤ k → k < b → get_or m k 0 ≡ 0

-- after is m with the bytes a..b marked; what was marked stays so
pub record Marked (m after : List ℕ) (a b : ℕ) : Type 0 where
  pub inside : (k : ℕ) → a ≤ k → k < b → 0 < get_or after k 0
  pub kept : (k : ℕ) → 0 < get_or m k 0 → 0 < get_or after k 0

-- a..b was free and is marked
pub record Entered (m after : List ℕ) (a b : ℕ) : Type 0 where
  pub free : Free m a b
  pub marked : Marked m after a b
