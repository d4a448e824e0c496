-- The first hint that passes, as a loop that goes down from the last hint finds it; and the window that two such hints bound, which lies
-- within the slots. Assumes nothing.
use Rattle.std.proofs.Common.{◌≡◌, refl, ap, ◌∙◌, Bool, true, false, List, [], ◌∷◌, ℕ, suc, ◌+◌, ◌*◌, ◌-◌, ◌/◌, ◌≤◌, ◌<◌, mul-le-mul_right, arith, le-leb, ltb-true, eq-eqb, ne_eqb, leb, ltb, length, get_or, drop, drop_of_length-le, drop-cons}
use native.Mathlib.Decide.{dec_lt}
use Rattle.keys.specs.Choice.{pick}
use Rattle.paper.specs.Hints.{first_hint, window_low, window_high}
use Rattle.paper.proofs.Halving.{first_hint-le}

-- ---- from the last hint down: i + first_hint f (drop i hs) is the number of the first hint that passes, of those from i on
module _ (f : ℕ → Bool) (hs : List ℕ) (i : ℕ) where
  -- there are none from i on
  pub first-none : length hs ≤ i → first_hint f (drop i hs) ≡ 0
  unfolding first_hint
  first-none h = rw (drop_of_length-le hs h)

  -- one hint more
  one_more : 0 < i → i ≤ length hs → drop (i - 1) hs ≡ get_or hs (i - 1) 0 ∷ drop i hs
  one_more z h =
      let s : suc (i - 1) ≡ i = omega arith in drop-cons hs (i - 1) 0 (omega arith) ∙ ap (λ (k : ℕ). get_or hs (i - 1) 0 ∷ drop k hs) s

  -- it passes
  pub first-here : 0 < i → i ≤ length hs → f (get_or hs (i - 1) 0) ≡ true → i - 1 ≡ i - 1 + first_hint f (drop (i - 1) hs)
  unfolding first_hint
  first-here z h e = rw (one_more z h, first_hint, e) (omega arith)

  -- it does not pass
  pub first-later : (first : ℕ) → 0 < i → i ≤ length hs → f (get_or hs (i - 1) 0) ≡ false → first ≡ i + first_hint f (drop i hs)
      → first ≡ i - 1 + first_hint f (drop (i - 1) hs)
  unfolding first_hint
  first-later first z h e l = rw (one_more z h, first_hint, e) (omega arith)

pub ruleset hinted = (first-none, first-here, first-later)

-- ---- windows
-- up to eight windows lie within the slots
pub windows_le : (k n : ℕ) → k ≤ 8 → k * (n / 9) ≤ n
windows_le k n h = omega (arith, mul-le-mul_right {m = k} {n = 8} (n / 9) h)

-- where the window ends: no hint is above the head, or hint `up` is the first that is
module _ (hs : List ℕ) (head n up : ℕ) (u : up ≡ first_hint (ltb head) hs) where
  pub high-none : up ≡ 8 → n ≡ window_high hs head n
  unfolding window_high
  high-none e = rw (← u, eq-eqb up 8 e)

  pub high-some : (up ≡ 8 → ⊥) → (up + 1) * (n / 9) ≡ window_high hs head n
  unfolding window_high
  high-some e = rw (← u, ne_eqb up 8 e)

-- a test that lets more pass finds one no later
first_sooner : (f g : ℕ → Bool) → ((h : ℕ) → g h ≡ true → f h ≡ true) → (hs : List ℕ) → first_hint f hs ≤ first_hint g hs
unfolding first_hint
first_sooner f g m [] = omega arith
first_sooner f g m (h ∷ hs) = go (g h) refl (first_sooner f g m hs)
  where
    sooner : (b : Bool) → first_hint f hs ≤ first_hint g hs → pick b 0 (suc (first_hint f hs)) ≤ suc (first_hint g hs)
    sooner true k = omega arith
    sooner false k = omega arith

    go : (b : Bool) → g h ≡ b → first_hint f hs ≤ first_hint g hs → pick (f h) 0 (suc (first_hint f hs)) ≤ pick b 0 (suc (first_hint g hs))
    go true e k = rw (m h e) (omega arith)
    go false e k = sooner (f h) k

-- the window of eight hints ends no sooner than it begins, and lies within the n slots
pub window-within : (hs : List ℕ) (head n : ℕ) → length hs ≡ 8 → (window_low hs head n ≤ window_high hs head n) × (window_high hs head n ≤ n)
unfolding window_low
window-within hs head n l = go (dec_lt up 8)
  where
    low : ℕ
    low = first_hint (leb head) hs

    up : ℕ
    up = first_hint (ltb head) hs

    low-le : first_hint (leb head) hs ≤ first_hint (ltb head) hs
    low-le = first_sooner (leb head) (ltb head) (λ h e. le-leb head h (omega (arith, ltb-true head h e))) hs

    up_le : first_hint (ltb head) hs ≤ 8
    up_le = omega (arith, first_hint-le (ltb head) hs)

    go : Dec (first_hint (ltb head) hs < 8) → (first_hint (leb head) hs * (n / 9) ≤ window_high hs head n) × (window_high hs head n ≤ n)
    go (yes h) =
        rw (← high-some hs head n up refl (λ e. omega arith))
        (mul-le-mul_right {m = low} {n = up + 1} (n / 9) (omega (arith, low-le)), windows_le (up + 1) n (omega arith))
    go (no h) =
        rw (← high-none hs head n up refl (omega (arith, up_le))) (windows_le low n (omega (arith, low-le, up_le)), omega arith)
