-- Keys: their order, their heads, and what two of them share.
use Rattle.std.specs.Prelude.{ℕ, suc, min, Bool, true, false, List, [], ◌∷◌, leb, ltb, eqb, length, take}
use Rattle.octets.specs.Bytes.{be}
use Rattle.keys.specs.Choice.{pick, both}
use Rattle.std.specs.declared.cmp.Ordering.{Ordering}
use Rattle.std.specs.declared.cmp.Ordering.TheVariants.{Less, Equal, Greater}

-- the order of two numbers, and o where they are equal
unfoldable pub by_number : ℕ → ℕ → Ordering → Ordering
by_number x y o = pick (ltb x y) Less (pick (ltb y x) Greater o)

-- "keys are in unsigned byte order; a proper prefix is smaller"
unfoldable pub order : List ℕ → List ℕ → Ordering
order [] [] = Equal
order [] (y ∷ ys) = Less
order (x ∷ xs) [] = Greater
order (x ∷ xs) (y ∷ ys) = by_number x y (order xs ys)

-- "the head is the suffix's first four bytes, zero padded, read big-endian"
unfoldable pub head_of : List ℕ → ℕ
head_of s = be 4 s 0

-- "a slot meets a probe by heads; if equal and either suffix is within 4 bytes, by lengths; else by suffix bytes"
unfoldable pub meets : List ℕ → List ℕ → Ordering
meets a b = by_number (head_of a) (head_of b) (pick (leb (min (length a) (length b)) 4) (by_number (length a) (length b) Equal) (order a b))

-- the length of the longest common prefix: how many leading bytes two keys share
unfoldable pub common : List ℕ → List ℕ → ℕ
common [] ys = 0
common (x ∷ xs) [] = 0
common (x ∷ xs) (y ∷ ys) = pick (eqb x y) (suc (common xs ys)) 0

-- whether two keys hold the same bytes (or any two lists the same numbers)
unfoldable pub same_list : List ℕ → List ℕ → Bool
same_list [] [] = true
same_list [] (y ∷ ys) = false
same_list (x ∷ xs) [] = false
same_list (x ∷ xs) (y ∷ ys) = both (eqb x y) (same_list xs ys)

-- whether the key a begins with b
unfoldable pub begins : List ℕ → List ℕ → Bool
begins a b = same_list (take (length b) a) b
