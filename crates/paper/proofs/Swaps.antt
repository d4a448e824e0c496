-- An element in another's place: the list is what is left without that element, with the new one put in. So the laws of an element put in
-- give those of a swap, and what is known of the element taken out is known against all that is left. Assumes nothing.
use Rattle.std.proofs.Common.{◌≡◌, refl, sym, ap, ◌∙◌, Bool, true, List, [], ◌∷◌, ◌++◌, map, ℕ, zero, suc, ◌+◌, ◌-◌, ◌≤◌, ◌<◌, add-one, arith, ne_eqb, le-leb, leb, eqb, length, get_or}
use native.Mathlib.Decide.{dec_le}
use borrow.Author.Tests.{lt-leb}
use Rattle.std.proofs.lemmas.List.{set-append_left, set-get_or, get_or-set_same, get_or-set_other}
use Rattle.std.proofs.lemmas.List.Recursion.{and_set}
use Rattle.keys.specs.Choice.{pick}
use Rattle.paper.specs.Lists.{tab, ins, swap, all, pairs, sum, less, below_first, rising}
use Rattle.paper.specs.Calls.{between}
use Rattle.paper.proofs.Lists.{both_parts, both_yes, pairs-ins, sum-ins, tab-ext, all-at, swap-set, map-swap}

module _ {A : Type 0} where
  -- the list without its element i
  unfoldable pub out : ℕ → List A → List A
  out i [] = []
  out zero (y ∷ l) = l
  out (suc i) (y ∷ l) = y ∷ out i l

  -- a swap takes an element out and puts another in
  pub swap-ins : (i : ℕ) (x : A) (l : List A) → i < length l → swap i x l ≡ ins i x (out i l)
  unfolding swap ins out
  swap-ins i x [] h = absurd (omega arith)
  swap-ins zero x (y ∷ l) h = refl
  swap-ins (suc i) x (y ∷ l) h = ap (λ (r : List A). y ∷ r) (swap-ins i x l (omega arith))

  -- the element that was taken out, put in again
  pub self-ins : (i : ℕ) (l : List A) (d : A) → i < length l → l ≡ ins i (get_or l i d) (out i l)
  unfolding ins out
  self-ins i [] d h = absurd (omega arith)
  self-ins zero (y ∷ l) d h = refl
  self-ins (suc i) (y ∷ l) d h = ap (λ (r : List A). y ∷ r) (self-ins i l d (omega arith))

  -- ---- what is left
  pub all-out : (f : A → Bool) (i : ℕ) (l : List A) → all f l ≡ true → all f (out i l) ≡ true
  unfolding all out
  all-out f i [] e = refl
  all-out f zero (y ∷ l) e = (both_parts (f y) (all f l) e).1
  all-out f (suc i) (y ∷ l) e =
      let b = both_parts (f y) (all f l) e in both_yes (f y) (all f (out i l)) b.0 (all-out f i l b.1)

  -- every other element passes
  pub out_at : (f : A → Bool) (i : ℕ) (l : List A) → all f (out i l) ≡ true → (j : ℕ) (d : A) → j < length l → (j ≡ i → ⊥) → f (get_or l j d) ≡ true
  unfolding all out
  out_at f i [] e j d h k = absurd (omega arith)
  out_at f zero (y ∷ l) e zero d h k = absurd (k refl)
  out_at f zero (y ∷ l) e (suc j) d h k = all-at f l e j d (omega arith)
  out_at f (suc i) (y ∷ l) e zero d h k = (both_parts (f y) (all f (out i l)) e).0
  out_at f (suc i) (y ∷ l) e (suc j) d h k = out_at f i l (both_parts (f y) (all f (out i l)) e).1 j d (omega arith) (λ q. k (ap suc q))

  -- an element of a list of pairs passes with all that is left
  pub out-pairs : (f : A → A → Bool) → ((a b : A) → f a b ≡ f b a) → (i : ℕ) (l : List A) (d : A) → i < length l → pairs f l ≡ true
      → (all (f (get_or l i d)) (out i l) ≡ true) × (pairs f (out i l) ≡ true)
  out-pairs f s i l d h e =
      both_parts (all (f (get_or l i d)) (out i l)) (pairs f (out i l))
      (sym (pairs-ins f s i (get_or l i d) (out i l)) ∙ ap (pairs f) (sym (self-ins i l d h)) ∙ e)

  -- ---- a swap
  pub all-swap : (f : A → Bool) (i : ℕ) (x : A) (l : List A) → f x ≡ true → all f l ≡ true → all f (swap i x l) ≡ true
  unfolding all
  all-swap f i x l g e = rw (swap-set i x l) (and_set (all f) f refl (λ y ys. refl) l i x g e)

  pub pairs-swap : (f : A → A → Bool) → ((a b : A) → f a b ≡ f b a) → (i : ℕ) (x d : A) (l : List A) → i < length l → all (f x) (out i l) ≡ true
      → pairs f l ≡ true → pairs f (swap i x l) ≡ true
  pairs-swap f s i x d l h a e =
      ap (pairs f) (swap-ins i x l h)
      ∙ pairs-ins f s i x (out i l)
      ∙ both_yes (all (f x) (out i l)) (pairs f (out i l)) a (out-pairs f s i l d h e).1

  -- the sum with the old element again is the old sum with the new one
  pub sum-swap : (f : A → ℕ) (i : ℕ) (x d : A) (l : List A) → i < length l → sum f (swap i x l) + f (get_or l i d) ≡ sum f l + f x
  sum-swap f i x d l h =
      omega (
        arith,
        ap (sum f) (swap-ins i x l h),
        sum-ins f i x (out i l),
        ap (sum f) (self-ins i l d h),
        sum-ins f i (get_or l i d) (out i l),
      )

  -- an element is no more than the sum
  pub sum-at : (f : A → ℕ) (i : ℕ) (d : A) (l : List A) → i < length l → f (get_or l i d) ≤ sum f l
  sum-at f i d l h = omega (arith, ap (sum f) (self-ins i l d h), sum-ins f i (get_or l i d) (out i l))

  pub swap-append : (i : ℕ) (x : A) (l m : List A) → i < length l → swap i x l ++ m ≡ swap i x (l ++ m)
  swap-append i x l m h = rw (swap-set i x l, swap-set i x (l ++ m)) (sym (set-append_left l m i x h))

  -- what was there, put there
  pub swap_self : (i : ℕ) (d : A) (l : List A) → swap i (get_or l i d) l ≡ l
  swap_self i d l = swap-set i (get_or l i d) l ∙ set-get_or l i d

  -- nor does a test see an element that it takes for the old one
  pub map-swap-same : {B : Type 0} (g : A → B) (i : ℕ) (x d : A) (l : List A) → g x ≡ g (get_or l i d) → map g (swap i x l) ≡ map g l
  map-swap-same g i x d l e = map-swap g i x l ∙ rw e (sym (map-swap g i (get_or l i d) l) ∙ ap (map g) (swap_self i d l))

  pub getD-swap : (i : ℕ) (x d : A) (l : List A) → i < length l → get_or (swap i x l) i d ≡ x
  getD-swap i x d l h = rw (swap-set i x l) (get_or-set_same l i x d h)

  pub getD-swap-other : (i : ℕ) (x d : A) (l : List A) (j : ℕ) → (j ≡ i → ⊥) → get_or (swap i x l) j d ≡ get_or l j d
  getD-swap-other i x d l j k = rw (swap-set i x l) (get_or-set_other l i j x d k)

  -- a table that differs in one place
  pub tab-swap : (n i : ℕ) (f g : ℕ → A) (x : A) → i < n → ((j : ℕ) → j < n → (j ≡ i → ⊥) → g j ≡ f j) → g i ≡ x → tab n g ≡ swap i x (tab n f)
  unfolding tab swap
  tab-swap zero i f g x h others here = absurd (omega arith)
  tab-swap (suc n) zero f g x h others here =
      cc (here, tab-ext n (λ j. g (suc j)) (λ j. f (suc j)) (λ j l. others (suc j) (omega arith) (λ q. omega arith)))
  tab-swap (suc n) (suc i) f g x h others here =
      cc (
        others 0 (omega arith) (λ q. omega arith),
        tab-swap n i (λ j. f (suc j)) (λ j. g (suc j)) x (omega arith) (λ j l k. others (suc j) (omega arith) (λ q. k (omega arith))) here,
      )

-- ---- rising keys
-- k is above the key before place i, and below the key after it
pub record Amid (ks : List (List ℕ)) (i : ℕ) (k : List ℕ) : Type 0 where
  pub before : (j : ℕ) → suc j ≡ i → less (get_or ks j []) k ≡ true
  pub after : suc i < length ks → less k (get_or ks (suc i) []) ≡ true

pub amid : (ks : List (List ℕ)) (i : ℕ) (k : List ℕ) → between ks i k ≡ true → Amid ks i k
unfolding between
amid ks i k e =
    let b = both_parts (pick (eqb i 0) true (less (get_or ks (i - 1) []) k)) (pick (leb (length ks) (i + 1)) true (less k (get_or ks (i + 1) []))) e in
    record { before = λ j q. low j q b.0; after = λ h. high h b.1 }
  where
    low : (j : ℕ) → suc j ≡ i → pick (eqb i 0) true (less (get_or ks (i - 1) []) k) ≡ true → less (get_or ks j []) k ≡ true
    low j q x = let f : i - 1 ≡ j = omega arith in rw (ne_eqb i 0 (λ z. omega arith), f) at x

    high : suc i < length ks → pick (leb (length ks) (i + 1)) true (less k (get_or ks (i + 1) [])) ≡ true → less k (get_or ks (suc i) []) ≡ true
    high h x = rw (add-one i) at (rw (lt-leb (length ks) (i + 1) (omega arith)) at x)

pub between_of : (ks : List (List ℕ)) (i : ℕ) (k : List ℕ) → Amid ks i k → between ks i k ≡ true
unfolding between
between_of ks i k M =
    both_yes (pick (eqb i 0) true (less (get_or ks (i - 1) []) k)) (pick (leb (length ks) (i + 1)) true (less k (get_or ks (i + 1) [])))
    (low i M.before) (high (dec_le (length ks) (i + 1)) M.after)
  where
    low : (i : ℕ) → ((j : ℕ) → suc j ≡ i → less (get_or ks j []) k ≡ true) → pick (eqb i 0) true (less (get_or ks (i - 1) []) k) ≡ true
    low zero h = refl
    low (suc j) h = let f : suc j - 1 ≡ j = omega arith in rw (ne_eqb (suc j) 0 (λ z. omega arith), f) (h j refl)

    high : Dec (length ks ≤ i + 1) → (suc i < length ks → less k (get_or ks (suc i) []) ≡ true) → pick (leb (length ks) (i + 1)) true (less k (get_or ks (i + 1) [])) ≡ true
    high (yes d) h = rw (le-leb (length ks) (i + 1) d)
    high (no d) h = rw (lt-leb (length ks) (i + 1) (omega arith), add-one i) (h (omega arith))

below_first_swap : (y k : List ℕ) (i : ℕ) (l : List (List ℕ)) → (i ≡ 0 → less y k ≡ true) → below_first y l ≡ true → below_first y (swap i k l) ≡ true
unfolding below_first swap
below_first_swap y k i [] h e = refl
below_first_swap y k zero (z ∷ l) h e = h refl
below_first_swap y k (suc i) (z ∷ l) h e = e

-- a key between its neighbours keeps the list rising
pub rising_swap : (i : ℕ) (k : List ℕ) (ks : List (List ℕ)) → Amid ks i k → rising ks ≡ true → rising (swap i k ks) ≡ true
unfolding rising below_first swap
rising_swap i k [] M r = refl
rising_swap zero k (y ∷ l) M r = both_yes (below_first k l) (rising l) (first l M.after) (both_parts (below_first y l) (rising l) r).1
  where
    first : (l : List (List ℕ)) → (1 < length (y ∷ l) → less k (get_or (y ∷ l) 1 []) ≡ true) → below_first k l ≡ true
    first [] h = unfold below_first in refl
    first (z ∷ l) h = unfold below_first in h (omega arith)
rising_swap (suc i) k (y ∷ l) M r =
    let b = both_parts (below_first y l) (rising l) r in
    both_yes (below_first y (swap i k l)) (rising (swap i k l)) (below_first_swap y k i l (λ q. M.before 0 (omega arith)) b.0)
    (rising_swap i k l (record { before = λ j q. M.before (suc j) (ap suc q); after = λ h. M.after (omega arith) }) b.1)

-- neighbours in a rising list
pub rising_at : (ks : List (List ℕ)) → rising ks ≡ true → (j : ℕ) → suc j < length ks → less (get_or ks j []) (get_or ks (suc j) []) ≡ true
unfolding rising below_first
rising_at [] r j h = absurd (omega arith)
rising_at (y ∷ []) r j h = absurd (omega arith)
rising_at (y ∷ z ∷ l) r zero h = (both_parts (less y z) (rising (z ∷ l)) r).0
rising_at (y ∷ z ∷ l) r (suc j) h = rising_at (z ∷ l) (both_parts (less y z) (rising (z ∷ l)) r).1 j (omega arith)

-- a key of a rising list stands between its neighbours
pub rising-amid : (ks : List (List ℕ)) (i : ℕ) → rising ks ≡ true → i < length ks → Amid ks i (get_or ks i [])
rising-amid ks i r h =
    record { before = λ j q. rw q at (rising_at ks r j (omega arith)); after = λ l. rising_at ks r i l }
