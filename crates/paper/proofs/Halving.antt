-- Halving finds the place where the answers part, from any range that holds it; a scan of rising keys parts them; and the first hint that
-- passes is where it says. Assumes nothing.
use Rattle.std.proofs.Common.{◌≡◌, refl, sym, ap, ◌∙◌, Bool, true, false, List, [], ◌∷◌, ℕ, zero, suc, ◌+◌, ◌-◌, ◌≤◌, ◌<◌, arith, lt-ltb, le-ltb, length, get_or}
use Rattle.std.proofs.lemmas.Bool.{both_ways}
use native.Mathlib.Decide.{dec_lt}
use Rattle.keys.specs.Choice.{pick}
use Rattle.keys.specs.Keys.{order}
use Rattle.keys.proofs.Orders.{order_same, order-above, order_below}
use Rattle.paper.specs.Lists.{up_to, less, below_first, rising}
use Rattle.paper.specs.Hints.{first_hint}
use Rattle.paper.specs.Searches.{middle, halving, passed}
use Rattle.paper.proofs.Lists.{both_parts}
use Rattle.paper.proofs.Sorted.{less-order, order-less, less_trans}
use Rattle.std.specs.declared.cmp.Ordering.{Ordering}
use Rattle.std.specs.declared.cmp.Ordering.TheVariants.{Less, Equal, Greater}

-- ---- halving, step by step
module _ {A B : Type 0} (t : A → B → B → B) (d : ℕ → B) where
  pub halving-end : (k : ℕ) (f : ℕ → A) (lo hi : ℕ) → hi ≤ lo → halving t d k f lo hi ≡ d lo
  unfolding halving
  halving-end zero f lo hi h = refl
  halving-end (suc k) f lo hi h = rw (le-ltb lo hi h)

  -- how often it may halve does not matter, if often enough
  pub halving-fuel : (k m : ℕ) (f : ℕ → A) (lo hi : ℕ) → hi - lo ≤ k → hi - lo ≤ m → halving t d k f lo hi ≡ halving t d m f lo hi
  unfolding halving
  halving-fuel zero m f lo hi h g = sym (halving-end m f lo hi (omega arith))
  halving-fuel (suc k) zero f lo hi h g = halving-end (suc k) f lo hi (omega arith)
  halving-fuel (suc k) (suc m) f lo hi h g = go (dec_lt lo hi) (halving-fuel k m f (middle lo hi + 1) hi) (halving-fuel k m f lo (middle lo hi))
    where
      go : Dec (lo < hi)
          → (hi - (middle lo hi + 1) ≤ k → hi - (middle lo hi + 1) ≤ m → halving t d k f (middle lo hi + 1) hi ≡ halving t d m f (middle lo hi + 1) hi)
          → (middle lo hi - lo ≤ k → middle lo hi - lo ≤ m → halving t d k f lo (middle lo hi) ≡ halving t d m f lo (middle lo hi))
          → halving t d (suc k) f lo hi ≡ halving t d (suc m) f lo hi
      go (yes l) up down = rw (up (omega arith) (omega arith), down (omega arith) (omega arith))
      go (no l) up down = rw (le-ltb lo hi (omega arith))

  -- a turn
  pub halving-turn : (f : ℕ → A) (lo hi : ℕ) → lo < hi
      → halving t d (hi - lo) f lo hi
      ≡ t (f (middle lo hi)) (halving t d (hi - (middle lo hi + 1)) f (middle lo hi + 1) hi) (halving t d (middle lo hi - lo) f lo (middle lo hi))
  unfolding halving
  halving-turn f lo hi h =
      let up = halving-fuel (hi - lo - 1) (hi - (middle lo hi + 1)) f (middle lo hi + 1) hi (omega arith) (omega arith) in
      let down = halving-fuel (hi - lo - 1) (middle lo hi - lo) f lo (middle lo hi) (omega arith) (omega arith) in
      halving-fuel (hi - lo) (suc (hi - lo - 1)) f lo hi (omega arith) (omega arith) ∙ rw (lt-ltb lo hi h, up, down)

  -- what is met matters only in the range
  pub halving-same : (k : ℕ) (f g : ℕ → A) (lo hi : ℕ) → ((i : ℕ) → i < hi → f i ≡ g i) → halving t d k f lo hi ≡ halving t d k g lo hi
  unfolding halving
  halving-same zero f g lo hi e = refl
  halving-same (suc k) f g lo hi e = go (dec_lt lo hi) (halving-same k f g (middle lo hi + 1) hi e) (λ l. halving-same k f g lo (middle lo hi) (λ i h. e i (omega arith)))
    where
      go : Dec (lo < hi) → halving t d k f (middle lo hi + 1) hi ≡ halving t d k g (middle lo hi + 1) hi
          → (lo < hi → halving t d k f lo (middle lo hi) ≡ halving t d k g lo (middle lo hi)) → halving t d (suc k) f lo hi ≡ halving t d (suc k) g lo hi
      go (yes l) up down = rw (lt-ltb lo hi l, e (middle lo hi) (omega arith), up, down l)
      go (no l) up down = rw (le-ltb lo hi (omega arith))

-- ---- where the answers part
pub halving_to : {A B : Type 0} (t : A → B → B → B) (d : ℕ → B) (f : ℕ → A) (n r : ℕ)
    → ((i : ℕ) → i < r → (x y : B) → t (f i) x y ≡ x) → ((i : ℕ) → r ≤ i → i < n → (x y : B) → t (f i) x y ≡ y)
    → (k lo hi : ℕ) → lo ≤ r → r ≤ hi → hi ≤ n → hi - lo ≤ k → halving t d k f lo hi ≡ d r
unfolding halving
halving_to t d f n r up down zero lo hi a b c e = let q : lo ≡ r = omega arith in ap d q
halving_to t d f n r up down (suc k) lo hi a b c e =
    go (dec_lt lo hi) (dec_lt (middle lo hi) r) (halving_to t d f n r up down k (middle lo hi + 1) hi) (halving_to t d f n r up down k lo (middle lo hi))
  where
    m : ℕ
    m = middle lo hi

    go : Dec (lo < hi) → Dec (middle lo hi < r)
        → (middle lo hi + 1 ≤ r → r ≤ hi → hi ≤ n → hi - (middle lo hi + 1) ≤ k → halving t d k f (middle lo hi + 1) hi ≡ d r)
        → (lo ≤ r → r ≤ middle lo hi → middle lo hi ≤ n → middle lo hi - lo ≤ k → halving t d k f lo (middle lo hi) ≡ d r)
        → halving t d (suc k) f lo hi ≡ d r
    go (no l) x P Q = let q : lo ≡ r = omega arith in rw (le-ltb lo hi (omega arith)) (ap d q)
    go (yes l) (yes x) P Q =
        rw (lt-ltb lo hi l, up (middle lo hi) x (halving t d k f (middle lo hi + 1) hi) (halving t d k f lo (middle lo hi))) (P (omega arith) b c (omega arith))
    go (yes l) (no x) P Q =
        rw (lt-ltb lo hi l, down (middle lo hi) (omega arith) (omega arith) (halving t d k f (middle lo hi + 1) hi) (halving t d k f lo (middle lo hi)))
        (Q a (omega arith) (omega arith) (omega arith))

-- ---- a scan
pub up_to_before : {A : Type 0} (f : A → Bool) (l : List A) (d : A) (i : ℕ) → i < up_to f l → f (get_or l i d) ≡ true
unfolding up_to
up_to_before f [] d i h = absurd (omega arith)
up_to_before f (y ∷ l) d i h = go i (f y) refl (λ j. up_to_before f l d j) h
  where
    go : (i : ℕ) (b : Bool) → f y ≡ b → ((j : ℕ) → j < up_to f l → f (get_or l j d) ≡ true) → i < pick b (suc (up_to f l)) 0 → f (get_or (y ∷ l) i d) ≡ true
    go i false e next h = absurd (omega arith)
    go zero true e next h = e
    go (suc i) true e next h = next i (omega arith)

-- a test that no later key passes again
abbrev pub Falls : (List ℕ → Bool) → Type 0
Falls f = (x y : List ℕ) → less x y ≡ true → f x ≡ false → f y ≡ false

rest_false : (f : List ℕ → Bool) → Falls f → (x : List ℕ) (l : List (List ℕ)) → below_first x l ≡ true → rising l ≡ true → f x ≡ false
    → (d : List ℕ) (i : ℕ) → i < length l → f (get_or l i d) ≡ false
unfolding below_first rising
rest_false f m x [] a r e d i h = absurd (omega arith)
rest_false f m x (y ∷ l) a r e d zero h = m x y a e
rest_false f m x (y ∷ l) a r e d (suc i) h =
    let b = both_parts (below_first y l) (rising l) r in rest_false f m y l b.0 b.1 (m x y a e) d i (omega arith)

pub up_to_after : (f : List ℕ → Bool) → Falls f → (l : List (List ℕ)) → rising l ≡ true → (d : List ℕ) (i : ℕ) → up_to f l ≤ i → i < length l
    → f (get_or l i d) ≡ false
unfolding up_to rising
up_to_after f m [] r d i h k = absurd (omega arith)
up_to_after f m (y ∷ l) r d i h k = go i (f y) refl (λ j. up_to_after f m l (both_parts (below_first y l) (rising l) r).1 d j) h k
  where
    go : (i : ℕ) (b : Bool) → f y ≡ b → ((j : ℕ) → up_to f l ≤ j → j < length l → f (get_or l j d) ≡ false) → pick b (suc (up_to f l)) 0 ≤ i
        → i < suc (length l) → f (get_or (y ∷ l) i d) ≡ false
    go zero true e next h k = absurd (omega arith)
    go (suc i) true e next h k = next i (omega arith) (omega arith)
    go zero false e next h k = e
    go (suc i) false e next h k = let b = both_parts (below_first y l) (rising l) r in rest_false f m y l b.0 b.1 e d i (omega arith)

-- ---- keys that a bound passes
pub passed_below : (u : Bool) (o : Ordering) → o ≡ Less → passed u o ≡ true
unfolding passed
passed_below u o e = rw e

pub passed-above : (u : Bool) (o : Ordering) → o ≡ Greater → passed u o ≡ false
unfolding passed
passed-above u o e = rw e

-- a key after one that is not passed is not passed
pub passed_falls : (u : Bool) (k : List ℕ) → Falls (λ y. passed u (order y k))
passed_falls u k x y l = go (order x k) refl
  where
    above : less k y ≡ true → passed u (order y k) ≡ false
    above h = passed-above u (order y k) (order_below k y (less-order k y h))

    go : (o : Ordering) → order x k ≡ o → passed u o ≡ false → passed u (order y k) ≡ false
    go Less e h = absurd (both_ways true (unfold passed in h) refl)
    go Equal e h = above (rw (order_same x k e) at l)
    go Greater e h = above (less_trans k x y (order-less k x (order-above x k e)) l)

-- ---- the first hint that passes
pub first_hint-le : (f : ℕ → Bool) (hs : List ℕ) → first_hint f hs ≤ length hs
unfolding first_hint
first_hint-le f [] = omega arith
first_hint-le f (h ∷ hs) = go (f h) (first_hint-le f hs)
  where
    go : (b : Bool) → first_hint f hs ≤ length hs → pick b 0 (suc (first_hint f hs)) ≤ suc (length hs)
    go true k = omega arith
    go false k = omega arith

pub first_hint-before : (f : ℕ → Bool) (hs : List ℕ) (j : ℕ) → j < first_hint f hs → f (get_or hs j 0) ≡ false
unfolding first_hint
first_hint-before f [] j l = absurd (omega arith)
first_hint-before f (h ∷ hs) j l = go j (f h) refl (λ i. first_hint-before f hs i) l
  where
    go : (j : ℕ) (b : Bool) → f h ≡ b → ((i : ℕ) → i < first_hint f hs → f (get_or hs i 0) ≡ false) → j < pick b 0 (suc (first_hint f hs))
        → f (get_or (h ∷ hs) j 0) ≡ false
    go j true e next l = absurd (omega arith)
    go zero false e next l = e
    go (suc j) false e next l = next j (omega arith)

pub first_hint-here : (f : ℕ → Bool) (hs : List ℕ) → first_hint f hs < length hs → f (get_or hs (first_hint f hs) 0) ≡ true
unfolding first_hint
first_hint-here f [] l = absurd (omega arith)
first_hint-here f (h ∷ hs) l = go (f h) refl (first_hint-here f hs) l
  where
    go : (b : Bool) → f h ≡ b → (first_hint f hs < length hs → f (get_or hs (first_hint f hs) 0) ≡ true) → pick b 0 (suc (first_hint f hs)) < suc (length hs)
        → f (get_or (h ∷ hs) (pick b 0 (suc (first_hint f hs))) 0) ≡ true
    go true e next l = e
    go false e next l = next (omega arith)
