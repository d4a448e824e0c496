-- Laws of tests over lists: what an element put in, or put in another's place, does to each of them. They are equations of tests, so they
-- ask nothing of the place. Assumes nothing.
use Rattle.std.proofs.Common.{◌≡◌, refl, ap, Bool, true, false, List, [], ◌∷◌, ◌++◌, map, ℕ, zero, suc, ◌+◌, ◌≤◌, ◌<◌, arith, length, take, drop, get_or, set}
use Rattle.std.proofs.lemmas.Bool.{and_parts, and_from}
use Rattle.std.proofs.lemmas.List.{map-set}
use Rattle.std.proofs.lemmas.List.Recursion.{and_at, and_from_places}
use Rattle.keys.specs.Choice.{both}
use Rattle.paper.specs.Lists.{tab, ins, swap, all, pairs, sum}

pub both_parts : (a b : Bool) → both a b ≡ true → (a ≡ true) × (b ≡ true)
both_parts a b e = and_parts a b e

pub both_yes : (a b : Bool) → a ≡ true → b ≡ true → both a b ≡ true
both_yes a b e f = and_from a b e f

pub both_swap : (a b c : Bool) → both a (both b c) ≡ both b (both a c)
both_swap true true c = refl
both_swap true false c = refl
both_swap false true c = refl
both_swap false false c = refl

pub both_four : (a b c d : Bool) → both (both a b) (both c d) ≡ both (both a c) (both b d)
both_four true true c d = refl
both_four true false true d = refl
both_four true false false d = refl
both_four false b c d = refl

module _ {A : Type 0} where
  pub ins-eq : (i : ℕ) (x : A) (l : List A) → i ≤ length l → ins i x l ≡ take i l ++ (x ∷ drop i l)
  unfolding ins
  ins-eq zero x l h = refl
  ins-eq (suc i) x [] h = absurd (omega arith)
  ins-eq (suc i) x (y ∷ l) h = ap (λ (r : List A). y ∷ r) (ins-eq i x l (omega arith))

  pub length-ins : (i : ℕ) (x : A) (l : List A) → length (ins i x l) ≡ suc (length l)
  unfolding ins
  length-ins zero x l = refl
  length-ins (suc i) x [] = refl
  length-ins (suc i) x (y ∷ l) = ap suc (length-ins i x l)

  pub all-ins : (f : A → Bool) (i : ℕ) (x : A) (l : List A) → all f (ins i x l) ≡ both (f x) (all f l)
  unfolding all ins
  all-ins f zero x l = refl
  all-ins f (suc i) x [] = refl
  all-ins f (suc i) x (y ∷ l) = rw (all-ins f i x l) (both_swap (f y) (f x) (all f l))

  pub pairs-ins : (f : A → A → Bool) → ((a b : A) → f a b ≡ f b a) → (i : ℕ) (x : A) (l : List A) → pairs f (ins i x l) ≡ both (all (f x) l) (pairs f l)
  unfolding all pairs ins
  pairs-ins f s zero x l = refl
  pairs-ins f s (suc i) x [] = refl
  pairs-ins f s (suc i) x (y ∷ l) =
      rw (all-ins (f y) i x l, pairs-ins f s i x l, s y x) (both_four (f x y) (all (f y) l) (all (f x) l) (pairs f l))

  pub sum-ins : (f : A → ℕ) (i : ℕ) (x : A) (l : List A) → sum f (ins i x l) ≡ f x + sum f l
  unfolding sum ins
  sum-ins f zero x l = refl
  sum-ins f (suc i) x [] = refl
  sum-ins f (suc i) x (y ∷ l) = omega (arith, sum-ins f i x l)

  pub ins-append : (i : ℕ) (x : A) (l m : List A) → i ≤ length l → ins i x l ++ m ≡ ins i x (l ++ m)
  unfolding ins
  ins-append zero x l m h = refl
  ins-append (suc i) x [] m h = absurd (omega arith)
  ins-append (suc i) x (y ∷ l) m h = ap (λ (r : List A). y ∷ r) (ins-append i x l m (omega arith))

  pub map-ins : {B : Type 0} (g : A → B) (i : ℕ) (x : A) (l : List A) → map g (ins i x l) ≡ ins i (g x) (map g l)
  unfolding ins
  map-ins g zero x l = refl
  map-ins g (suc i) x [] = refl
  map-ins g (suc i) x (y ∷ l) = ap (λ r. g y ∷ r) (map-ins g i x l)

  pub length-tab : (n : ℕ) (f : ℕ → A) → length (tab n f) ≡ n
  unfolding tab
  length-tab zero f = refl
  length-tab (suc n) f = ap suc (length-tab n (λ j. f (suc j)))

  pub getD-tab : (n : ℕ) (f : ℕ → A) (i : ℕ) (d : A) → i < n → get_or (tab n f) i d ≡ f i
  unfolding tab
  getD-tab zero f i d h = absurd (omega arith)
  getD-tab (suc n) f zero d h = refl
  getD-tab (suc n) f (suc i) d h = getD-tab n (λ j. f (suc j)) i d (omega arith)

  pub tab-ext : (n : ℕ) (f g : ℕ → A) → ((j : ℕ) → j < n → f j ≡ g j) → tab n f ≡ tab n g
  unfolding tab
  tab-ext zero f g h = refl
  tab-ext (suc n) f g h = cc (h 0 (omega arith), tab-ext n (λ j. f (suc j)) (λ j. g (suc j)) (λ j l. h (suc j) (omega arith)))

  -- one element more, and the later ones moved up
  pub tab-ins : (n i : ℕ) (f g : ℕ → A) (x : A) → i ≤ n → ((j : ℕ) → j < i → g j ≡ f j) → g i ≡ x → ((j : ℕ) → i ≤ j → j < n → g (suc j) ≡ f j)
      → tab (suc n) g ≡ ins i x (tab n f)
  unfolding tab ins
  tab-ins n zero f g x h before here after = cc (here, tab-ext n (λ j. g (suc j)) f (λ j l. after j (omega arith) l))
  tab-ins zero (suc i) f g x h before here after = absurd (omega arith)
  tab-ins (suc n) (suc i) f g x h before here after =
      cc (before 0 (omega arith), tab-ins n i (λ j. f (suc j)) (λ j. g (suc j)) x (omega arith) (λ j l. before (suc j) (omega arith)) here (λ j l m. after (suc j) (omega arith) (omega arith)))

  pub all-at : (f : A → Bool) (l : List A) → all f l ≡ true → (i : ℕ) (d : A) → i < length l → f (get_or l i d) ≡ true
  unfolding all
  all-at f l e i d h = and_at (all f) f refl (λ x xs. refl) l i d h e

  pub all_of : (f : A → Bool) (l : List A) (d : A) → ((i : ℕ) → i < length l → f (get_or l i d) ≡ true) → all f l ≡ true
  unfolding all
  all_of f l d h = and_from_places (all f) f refl (λ x xs. refl) l d h

  pub all-weaken : (f g : A → Bool) (l : List A) → ((x : A) → f x ≡ true → g x ≡ true) → all f l ≡ true → all g l ≡ true
  unfolding all
  all-weaken f g [] h e = refl
  all-weaken f g (x ∷ l) h e =
      let b = both_parts (f x) (all f l) e in both_yes (g x) (all g l) (h x b.0) (all-weaken f g l h b.1)

  pub all_append : (f : A → Bool) (l m : List A) → all f l ≡ true → all f m ≡ true → all f (l ++ m) ≡ true
  unfolding all
  all_append f [] m e g = g
  all_append f (x ∷ l) m e g = let b = both_parts (f x) (all f l) e in both_yes (f x) (all f (l ++ m)) b.0 (all_append f l m b.1 g)

-- a test of two lists is the test of each
pub all_parts : {A : Type 0} (f : A → Bool) (l m : List A) → all f (l ++ m) ≡ true → (all f l ≡ true) × (all f m ≡ true)
unfolding all
all_parts f [] m e = (refl, e)
all_parts f (x ∷ l) m e =
    let b = both_parts (f x) (all f (l ++ m)) e in
    let c = all_parts f l m b.1 in
    (both_yes (f x) (all f l) b.0 c.0, c.1)

pub tab_lt : (b : ℕ) → 0 < b → (f : ℕ → ℕ) → ((j : ℕ) → f j < b) → (n j : ℕ) → get_or (tab n f) j 0 < b
unfolding tab
tab_lt b z f h zero j = z
tab_lt b z f h (suc n) zero = h 0
tab_lt b z f h (suc n) (suc j) = tab_lt b z (λ k. f (suc k)) (λ k. h (suc k)) n j

module _ {A : Type 0} where
  -- pairs by their places, for loops that go by index
  pub pairs-at : (f : A → A → Bool) (l : List A) → pairs f l ≡ true → (d : A) (i j : ℕ) → i < j → j < length l → f (get_or l i d) (get_or l j d) ≡ true
  unfolding pairs
  pairs-at f [] e d i j h k = absurd (omega arith)
  pairs-at f (x ∷ l) e d i zero h k = absurd (omega arith)
  pairs-at f (x ∷ l) e d zero (suc j) h k = all-at (f x) l (both_parts (all (f x) l) (pairs f l) e).0 j d (omega arith)
  pairs-at f (x ∷ l) e d (suc i) (suc j) h k = pairs-at f l (both_parts (all (f x) l) (pairs f l) e).1 d i j (omega arith) (omega arith)

  pub pairs_of : (f : A → A → Bool) (l : List A) (d : A) → ((i j : ℕ) → i < j → j < length l → f (get_or l i d) (get_or l j d) ≡ true) → pairs f l ≡ true
  unfolding pairs
  pairs_of f [] d h = refl
  pairs_of f (x ∷ l) d h =
      both_yes (all (f x) l) (pairs f l) (all_of (f x) l d (λ j m. h 0 (suc j) (omega arith) (omega arith)))
      (pairs_of f l d (λ i j a b. h (suc i) (suc j) (omega arith) (omega arith)))

-- ---- an element in another's place
module _ {A : Type 0} where
  -- the library's `set`, whose laws are the library's
  pub swap-set : (i : ℕ) (x : A) (l : List A) → swap i x l ≡ set l i x
  unfolding swap
  swap-set i x [] = refl
  swap-set zero x (y ∷ l) = refl
  swap-set (suc i) x (y ∷ l) = ap (λ (r : List A). y ∷ r) (swap-set i x l)

pub map-swap : {A B : Type 0} (g : A → B) (i : ℕ) (x : A) (l : List A) → map g (swap i x l) ≡ swap i (g x) (map g l)
map-swap g i x l = rw (swap-set i x l, swap-set i (g x) (map g l)) (map-set g l i x)
