-- The map of starts: a start that is entered, what no start within a piece means, and pieces apart that start in cells of their own, none within
-- another: the one that starts in the earlier cell ends before the other starts. Assumes nothing.
use Rattle.std.proofs.Common.{◌≡◌, ◌∙◌, true, List, ℕ, ◌+◌, ◌-◌, ◌%◌, ◌≤◌, ◌<◌, min, max, arith, le-leb, get_or}
use native.Mathlib.Decide.{dec_lt, dec_le}
use Rattle.paper.specs.Verdicts.{Piece, apart}
use Rattle.verdict.specs.Starts.{cell, mark, Begun, Lone, Starts}

-- ---- the starts of the first pieces
module _ (f : ℕ → Piece) (o : ℕ) where
  pub starts_none : (m : List ℕ) → Starts f o 0 m
  starts_none m = record { above = λ i l. absurd (omega arith); marks = λ i l. absurd (omega arith); own = λ i j l k. absurd (omega arith) }

  module _ (n : ℕ) (m after : List ℕ) (S : Starts f o n m) (l : (f n).lo < (f n).hi → o ≤ (f n).lo) (B : Begun m after o (f n).lo (f n).hi) where
    above-next : (i : ℕ) → i < n + 1 → Dec (i < n) → (f i).lo < (f i).hi → o ≤ (f i).lo
    above-next i q (yes r) = S.above i r
    above-next i q (no r) = let g : i ≡ n = omega arith in rw g l

    marked : (i : ℕ) → i < n → (f i).lo < (f i).hi → 0 < get_or m (cell o (f i).lo) 0
    marked i r u = let z : get_or m (cell o (f i).lo) 0 ≡ mark o (f i).lo = S.marks i r u in omega arith

    marks-next : (i : ℕ) → i < n + 1 → Dec (i < n) → (f i).lo < (f i).hi → get_or after (cell o (f i).lo) 0 ≡ mark o (f i).lo
    marks-next i q (yes r) = λ u. B.kept (cell o (f i).lo) (marked i r u) ∙ S.marks i r u
    marks-next i q (no r) = let g : i ≡ n = omega arith in rw g B.here

    own-last : (i : ℕ) → i < n → (f i).lo < (f i).hi → (f n).lo < (f n).hi → cell o (f i).lo ≡ cell o (f n).lo → ⊥
    own-last i r u v g =
        let z : get_or m (cell o (f i).lo) 0 ≡ 0 = rw g (B.free v) in
        let y = marked i r u in
        omega arith

    own-next : (i j : ℕ) → i < j → j < n + 1 → Dec (j < n) → (f i).lo < (f i).hi → (f j).lo < (f j).hi → cell o (f i).lo ≡ cell o (f j).lo → ⊥
    own-next i j q k (yes r) = S.own i j q r
    own-next i j q k (no r) = let g : j ≡ n = omega arith in rw g (own-last i (omega arith))

    starts-next : Starts f o (n + 1) after
    starts-next = record { above = λ i q. above-next i q (dec_lt i n); marks = λ i q. marks-next i q (dec_lt i n); own = λ i j q k. own-next i j q k (dec_lt j n) }

  -- lo and hi are those of the next piece
  pub starts_more : (n : ℕ) (m after : List ℕ) (lo hi : ℕ) → Starts f o n m → (lo ≡ (f n).lo) × (hi ≡ (f n).hi) → (lo < hi → o ≤ lo) → Begun m after o lo hi
      → Starts f o (n + 1) after
  starts_more n m after lo hi S e l B = starts-next n m after S (rw (e.0, e.1) at l) (rw (e.0, e.1) at B)

  -- ---- pieces that are apart
  module _ (n : ℕ) (m : List ℕ) (S : Starts f o n m) (L : (k : ℕ) → k < n → (f k).lo < (f k).hi → Lone m ((f k).lo - o) ((f k).hi - o)) where
    ordered : (i j : ℕ) → i < n → j < n → (f i).lo < (f i).hi → (f j).lo < (f j).hi → cell o (f i).lo < cell o (f j).lo → (f i).hi ≤ (f j).lo
    ordered i j a b u v c = go (dec_lt (cell o (f j).lo) (cell o (f i).hi)) (dec_le (f i).hi (f j).lo)
      where
        go : Dec (cell o (f j).lo < cell o (f i).hi) → Dec ((f i).hi ≤ (f j).lo) → (f i).hi ≤ (f j).lo
        go d (yes e) = e
        go (yes d) (no e) =
            let z : get_or m (cell o (f j).lo) 0 ≡ 0 = (L i a u).between (cell o (f j).lo) c d in
            let y : get_or m (cell o (f j).lo) 0 ≡ mark o (f j).lo = S.marks j b v in
            absurd (omega arith)
        go (no d) (no e) =
            let x = S.above i a u in
            let w = S.above j b v in
            let q : cell o (f i).hi ≡ cell o (f j).lo = omega arith in
            let y : get_or m (cell o (f i).hi) 0 ≡ mark o (f j).lo = rw q (S.marks j b v) in
            let z : ((f i).hi - o) % 8 < get_or m (cell o (f i).hi) 0 = (L i a u).last (omega arith) (omega arith) in
            absurd (omega arith)

    pub all_apart : (i j : ℕ) → i < j → j < n → apart (f i) (f j) ≡ true
    unfolding apart
    all_apart i j l b =
        le-leb (min (f i).hi (f j).hi) (max (f i).lo (f j).lo)
        (go (dec_lt (f i).lo (f i).hi) (dec_lt (f j).lo (f j).hi) (dec_lt (cell o (f i).lo) (cell o (f j).lo)) (dec_lt (cell o (f j).lo) (cell o (f i).lo)))
      where
        go : Dec ((f i).lo < (f i).hi) → Dec ((f j).lo < (f j).hi) → Dec (cell o (f i).lo < cell o (f j).lo) → Dec (cell o (f j).lo < cell o (f i).lo)
            → min (f i).hi (f j).hi ≤ max (f i).lo (f j).lo
        go (no u) v c d = omega arith
        go (yes u) (no v) c d = omega arith
        go (yes u) (yes v) (yes c) d = let q = ordered i j (omega arith) b u v c in omega arith
        go (yes u) (yes v) (no c) (yes d) = let q = ordered j i b (omega arith) v u d in omega arith
        go (yes u) (yes v) (no c) (no d) = absurd (S.own i j l b u v (omega arith))
