-- A map of where pieces start: a byte for each cell of eight bytes, from the origin o on; 0, or one more than the place in the cell that a piece
-- starts at.
use Rattle.std.specs.Prelude.{◌≡◌, ℕ, ◌+◌, ◌-◌, ◌/◌, ◌%◌, ◌≤◌, ◌<◌, List, get_or}
use Rattle.paper.specs.Verdicts.{Piece}

-- the cell of a place, and what a start there writes
abbrev pub cell : ℕ → ℕ → ℕ
cell o k = (k - o) / 8

abbrev pub mark : ℕ → ℕ → ℕ
mark o k = (k - o) % 8 + 1

-- the start of lo..hi was entered in a cell that was empty; an empty piece has no start
pub record Begun (m after : List ℕ) (o lo hi : ℕ) : Type 0 where
  pub free : lo < hi → get_or m (cell o lo) 0 ≡ 0
  pub here : lo < hi → get_or after (cell o lo) 0 ≡ mark o lo
  pub kept : (k : ℕ) → 0 < get_or m k 0 → get_or after k 0 ≡ get_or m k 0

-- no piece starts within lo..hi but in its first cell; both are counted from the origin
pub record Lone (m : List ℕ) (lo hi : ℕ) : Type 0 where
  pub between : (k : ℕ) → lo / 8 < k → k < hi / 8 → get_or m k 0 ≡ 0
  pub last : lo / 8 < hi / 8 → 0 < get_or m (hi / 8) 0 → hi % 8 < get_or m (hi / 8) 0

-- the map has the starts of the first n pieces of f, each in a cell of its own
pub record Starts (f : ℕ → Piece) (o n : ℕ) (m : List ℕ) : Type 0 where
  pub above : (i : ℕ) → i < n → (f i).lo < (f i).hi → o ≤ (f i).lo
  pub marks : (i : ℕ) → i < n → (f i).lo < (f i).hi → get_or m (cell o (f i).lo) 0 ≡ mark o (f i).lo
  pub own : (i j : ℕ) → i < j → j < n → (f i).lo < (f i).hi → (f j).lo < (f j).hi → cell o (f i).lo ≡ cell o (f j).lo → ⊥
