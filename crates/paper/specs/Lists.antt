-- Words for lists and tests that the other files use.
use Rattle.std.specs.Prelude.{ℕ, zero, suc, ◌+◌, Bool, true, List, [], ◌∷◌}
use Rattle.keys.specs.Choice.{pick, both}
use Rattle.keys.specs.Keys.{order}
use Rattle.std.specs.Ordering.{is_lt}

-- all tests of a list
unfoldable pub every : List Bool → Bool
every [] = true
every (b ∷ bs) = both b (every bs)

module _ {A : Type 0} where
  -- f 0, f 1, .. f (n - 1)
  unfoldable pub tab : ℕ → (ℕ → A) → List A
  tab zero f = []
  tab (suc n) f = f 0 ∷ tab n (λ j. f (suc j))

  -- x put in as element i, the later ones one place on
  unfoldable pub ins : ℕ → A → List A → List A
  ins zero x l = x ∷ l
  ins (suc i) x [] = x ∷ []
  ins (suc i) x (y ∷ l) = y ∷ ins i x l

  -- x in the place of element i
  unfoldable pub swap : ℕ → A → List A → List A
  swap i x [] = []
  swap zero x (y ∷ l) = x ∷ l
  swap (suc i) x (y ∷ l) = y ∷ swap i x l

  -- does every element pass
  unfoldable pub all : (A → Bool) → List A → Bool
  all f [] = true
  all f (x ∷ l) = both (f x) (all f l)

  -- does every element pass with every later one
  unfoldable pub pairs : (A → A → Bool) → List A → Bool
  pairs f [] = true
  pairs f (x ∷ l) = both (all (f x) l) (pairs f l)

  unfoldable pub sum : (A → ℕ) → List A → ℕ
  sum f [] = 0
  sum f (x ∷ l) = f x + sum f l

  -- a scan: how many elements come before the first that does not pass
  unfoldable pub up_to : (A → Bool) → List A → ℕ
  up_to f [] = 0
  up_to f (x ∷ l) = pick (f x) (suc (up_to f l)) 0

-- ---- keys

-- is a smaller than b
unfoldable pub less : List ℕ → List ℕ → Bool
less a b = is_lt (order a b)

-- are a and b different
unfoldable pub differ : List ℕ → List ℕ → Bool
differ a b = pick (less a b) true (less b a)

-- is k below the first of them
unfoldable pub below_first : List ℕ → List (List ℕ) → Bool
below_first k [] = true
below_first k (y ∷ l) = less k y

-- strictly rising
unfoldable pub rising : List (List ℕ) → Bool
rising [] = true
rising (x ∷ l) = both (below_first x l) (rising l)
