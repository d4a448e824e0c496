-- Packing: pieces that share no byte are together no longer than the room they lie in, since each byte of the room is in at most one of
-- them. Assumes nothing.
use Rattle.std.proofs.Common.{◌≡◌, refl, true, List, [], ◌∷◌, ℕ, zero, suc, ◌+◌, ◌-◌, ◌≤◌, ◌<◌, min, max, arith, le-leb, lt-ltb, le-ltb, leb-true, leb, ltb}
use native.Mathlib.Decide.{dec_le, dec_lt}
use borrow.Author.Tests.{lt-leb}
use Rattle.keys.specs.Choice.{pick}
use Rattle.paper.specs.Lists.{all, pairs, sum}
use Rattle.paper.specs.Verdicts.{Piece, apart}
use Rattle.paper.proofs.Lists.{both_parts}

-- how many bytes a piece has
unfoldable pub size : Piece → ℕ
size a = a.hi - a.lo

sum_to : ℕ → (ℕ → ℕ) → ℕ
sum_to zero g = 0
sum_to (suc n) g = sum_to n g + g n

sum_to_add : (n : ℕ) (f g : ℕ → ℕ) → sum_to n (λ j. f j + g j) ≡ sum_to n f + sum_to n g
unfolding sum_to
sum_to_add zero f g = refl
sum_to_add (suc n) f g = omega (arith, sum_to_add n f g)

sum_to_le : (n : ℕ) (g : ℕ → ℕ) → ((j : ℕ) → g j ≤ 1) → sum_to n g ≤ n
unfolding sum_to
sum_to_le zero g h = omega arith
sum_to_le (suc n) g h = omega (arith, sum_to_le n g h, h n)

-- 1 where j lies in a
hits : Piece → ℕ → ℕ
hits a j = pick (leb a.lo j) (pick (ltb j a.hi) 1 0) 0

module _ (a : Piece) (j : ℕ) where
  hits-in : a.lo ≤ j → j < a.hi → hits a j ≡ 1
  unfolding hits
  hits-in h k = rw (le-leb a.lo j h, lt-ltb j a.hi k)

  hits-below : j < a.lo → hits a j ≡ 0
  unfolding hits
  hits-below h = rw (lt-leb a.lo j h)

  hits-above : a.hi ≤ j → hits a j ≡ 0
  unfolding hits
  hits-above h = elim (dec_le a.lo j) [ yes l ↦ rw (le-leb a.lo j l, le-ltb j a.hi h) | no l ↦ rw (lt-leb a.lo j (omega arith)) ]

hits_sum : (a : Piece) (e : ℕ) → (a.lo < a.hi → e ≤ a.lo) → (n : ℕ) → min a.hi (e + n) - a.lo ≤ sum_to n (λ j. hits a (e + j))
unfolding sum_to
hits_sum a e h zero = elim (dec_lt a.lo a.hi) [ yes l ↦ omega (arith, h l) | no l ↦ omega arith ]
hits_sum a e h (suc n) = go (dec_le a.lo (e + n)) (dec_lt (e + n) a.hi) (hits_sum a e h n)
  where
    go : Dec (a.lo ≤ e + n) → Dec (e + n < a.hi) → min a.hi (e + n) - a.lo ≤ sum_to n (λ j. hits a (e + j))
        → min a.hi (e + suc n) - a.lo ≤ sum_to n (λ j. hits a (e + j)) + hits a (e + n)
    go (yes l) (yes m) next = omega (arith, hits-in a (e + n) l m)
    go (yes l) (no m) next = omega arith
    go (no l) d next = omega arith

-- a piece that is not empty lies in e up to e + n
abbrev pub Lies : ℕ → ℕ → Piece → Type 0
Lies e n a = a.lo < a.hi → (e ≤ a.lo) × (a.hi ≤ e + n)

size-le : (a : Piece) (e n : ℕ) → Lies e n a → size a ≤ sum_to n (λ j. hits a (e + j))
unfolding size
size-le a e n h =
    elim (dec_lt a.lo a.hi) [ yes l ↦ omega (arith, h l, hits_sum a e (λ k. (h k).0) n) | no l ↦ omega arith ]

pub data AllLie (e n : ℕ) : List Piece → Type 0 where
  none : AllLie e n []
  one : {a : Piece} {l : List Piece} → Lies e n a → AllLie e n l → AllLie e n (a ∷ l)

total : (e n : ℕ) (l : List Piece) → AllLie e n l → sum size l ≤ sum_to n (λ j. sum (λ a. hits a (e + j)) l)
unfolding sum
total e n [] none = omega arith
total e n (a ∷ l) (one h k) = omega (arith, size-le a e n h, total e n l k, sum_to_add n (λ j. hits a (e + j)) (λ j. sum (λ a. hits a (e + j)) l))

cover_none : (a : Piece) (j : ℕ) → a.lo ≤ j → j < a.hi → (l : List Piece) → all (apart a) l ≡ true → sum (λ b. hits b j) l ≡ 0
unfolding sum all
cover_none a j h k [] e = refl
cover_none a j h k (b ∷ l) e =
    let both = both_parts (apart a b) (all (apart a) l) e in
    omega (arith, miss both.0 (dec_le b.lo j) (dec_lt j b.hi), cover_none a j h k l both.1)
  where
    miss : apart a b ≡ true → Dec (b.lo ≤ j) → Dec (j < b.hi) → hits b j ≡ 0
    miss e (yes l) (yes m) = unfold apart in absurd (omega (arith, leb-true (min a.hi b.hi) (max a.lo b.lo) e))
    miss e (yes l) (no m) = hits-above b j (omega arith)
    miss e (no l) d = hits-below b j (omega arith)

cover_one : (j : ℕ) (l : List Piece) → pairs apart l ≡ true → sum (λ b. hits b j) l ≤ 1
unfolding sum pairs
cover_one j [] e = omega arith
cover_one j (a ∷ l) e = go (both_parts (all (apart a) l) (pairs apart l) e).0 (dec_le a.lo j) (dec_lt j a.hi) (cover_one j l (both_parts (all (apart a) l) (pairs apart l) e).1)
  where
    go : all (apart a) l ≡ true → Dec (a.lo ≤ j) → Dec (j < a.hi) → sum (λ b. hits b j) l ≤ 1 → hits a j + sum (λ b. hits b j) l ≤ 1
    go f (yes h) (yes k) next = omega (arith, hits-in a j h k, cover_none a j h k l f)
    go f (yes h) (no k) next = omega (arith, hits-above a j (omega arith))
    go f (no h) d next = omega (arith, hits-below a j (omega arith))

pub packed : (e n : ℕ) (l : List Piece) → AllLie e n l → pairs apart l ≡ true → sum size l ≤ n
packed e n l h f = omega (arith, total e n l h, sum_to_le n (λ j. sum (λ a. hits a (e + j)) l) (λ j. cover_one (e + j) l f))
