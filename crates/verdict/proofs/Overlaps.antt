-- U3 pair by pair: two pieces overlap where the later start lies before the earlier end. Assumes nothing.
use Rattle.std.proofs.Common.{◌≡◌, refl, sym, ◌∙◌, Bool, true, false, List, ℕ, ◌+◌, ◌≤◌, ◌<◌, min, max, arith, le-leb, ltb-true, ltb-false, ltb}
use Rattle.std.proofs.lemmas.Bool.{both_ways}
use native.Mathlib.Decide.{dec_lt}
use borrow.Author.Tests.{lt-leb}
use Rattle.paper.specs.Lists.{tab}
use Rattle.paper.specs.Verdicts.{Piece, apart}
use Rattle.paper.specs.declared.page.Header.{Header}
use Rattle.paper.proofs.Lists.{pairs-at, pairs_of, length-tab, getD-tab}
use Rattle.verdict.specs.Pieces.{piece_at, disjoint_with}
use Rattle.verdict.specs.Marks.{disjoint_to}

-- ---- two pieces
-- the numbers of two pieces tell whether they are apart
module _ (x y : Piece) (xl xh yl yh : ℕ) (a : xl ≡ x.lo) (b : xh ≡ x.hi) (c : yl ≡ y.lo) (d : yh ≡ y.hi) where
  touch-no : ltb (max xl yl) (min xh yh) ≡ false → apart x y ≡ true
  unfolding apart
  touch-no e = le-leb (min x.hi y.hi) (max x.lo y.lo) (rw (a, b, c, d) at (ltb-false (max xl yl) (min xh yh) e))

  touch-yes : ltb (max xl yl) (min xh yh) ≡ true → apart x y ≡ false
  unfolding apart
  touch-yes e = lt-leb (min x.hi y.hi) (max x.lo y.lo) (rw (a, b, c, d) at (ltb-true (max xl yl) (min xh yh) e))

-- ---- all pairs
module _ (w : ℕ) (p : List ℕ) (h : Header) where
  abbrev pub Apart : ℕ → ℕ → Type 0
  Apart i j = apart (piece_at w p h i) (piece_at w p h j) ≡ true

  -- piece j is apart from the first n
  abbrev pub Clear : ℕ → ℕ → Type 0
  Clear j n = (i : ℕ) → i < n → Apart i j

  -- the numbers of piece i, and those of piece j
  abbrev pub Is : ℕ → ℕ → ℕ → Type 0
  Is i lo hi = (lo ≡ (piece_at w p h i).lo) × (hi ≡ (piece_at w p h i).hi)

  pub clear-more : (j i xl xh yl yh : ℕ) → Clear j i → Is j yl yh → Is i xl xh → ltb (max xl yl) (min xh yh) ≡ false → Clear j (i + 1)
  clear-more j i xl xh yl yh f y x e k l = go (dec_lt k i)
    where
      go : Dec (k < i) → Apart k j
      go (yes q) = f k q
      go (no q) = let g : k ≡ i = omega arith in rw g (touch-no (piece_at w p h i) (piece_at w p h j) xl xh yl yh x.0 x.1 y.0 y.1 e)

  -- the first n pieces are apart from each other
  abbrev pub AllClear : ℕ → Type 0
  AllClear n = (j : ℕ) → j < n → Clear j j

  pub all_none : AllClear 0
  all_none j l = absurd (omega arith)

  pub all_more : (n m : ℕ) → AllClear n → n ≤ m → Clear n m → AllClear (n + 1)
  all_more n m f k e j l = go (dec_lt j n)
    where
      go : Dec (j < n) → Clear j j
      go (yes q) = f j q
      go (no q) = let g : j ≡ n = omega arith in rw g (λ i r. e i (omega arith))

  pub clear-to : (n : ℕ) → AllClear n → disjoint_to w p h n ≡ true
  unfolding disjoint_to
  clear-to n f =
      pairs_of apart (tab n (piece_at w p h)) (piece_at w p h 0) (λ i j l m.
      let b : j < n = rw (length-tab n (piece_at w p h)) at m in
      rw (getD-tab n (piece_at w p h) i (piece_at w p h 0) (omega arith), getD-tab n (piece_at w p h) j (piece_at w p h 0) b) (f j b i l))

  pub to_clear : (n : ℕ) → disjoint_to w p h n ≡ true → AllClear n
  unfolding disjoint_to
  to_clear n e j b i l =
      rw (getD-tab n (piece_at w p h) i (piece_at w p h 0) (omega arith), getD-tab n (piece_at w p h) j (piece_at w p h 0) b)
      at (pairs-at apart (tab n (piece_at w p h)) e (piece_at w p h 0) i j l (rw (length-tab n (piece_at w p h)) b))

  to-all : disjoint_with w p h ≡ disjoint_to w p h (h.count + 3)
  unfolding disjoint_with disjoint_to
  to-all = refl

  pub disjoint-yes : (n : ℕ) → h.count + 3 ≤ n → AllClear n → disjoint_with w p h ≡ true
  disjoint-yes n k f = to-all ∙ clear-to (h.count + 3) (λ j l. f j (omega arith))

  pub disjoint-no : (j i xl xh yl yh : ℕ) → j < h.count + 3 → i < j → Is j yl yh → Is i xl xh → ltb (max xl yl) (min xh yh) ≡ true → disjoint_with w p h ≡ false
  disjoint-no j i xl xh yl yh b l y x e = go (disjoint_with w p h) refl
    where
      go : (t : Bool) → disjoint_with w p h ≡ t → t ≡ false
      go true q =
          absurd (both_ways true (sym (to_clear (h.count + 3) (sym to-all ∙ q) j b i l) ∙ touch-yes (piece_at w p h i) (piece_at w p h j) xl xh yl yh x.0 x.1 y.0 y.1 e) refl)
      go false q = refl
