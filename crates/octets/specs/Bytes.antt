-- Numbers and runs of bytes at a place of a list: all that a page's bytes are ever read by, and all that they are ever written by.
use Rattle.std.specs.Prelude.{ℕ, zero, suc, ◌+◌, ◌*◌, ◌/◌, ◌%◌, ◌^◌, ◌<◌, List, [], ◌∷◌, get_or, set, take, drop}

-- every element is a byte
abbrev pub IsBytes : List ℕ → Type 0
IsBytes p = (k : ℕ) → get_or p k 0 < 256

-- the number in the n bytes of p from o on, lowest byte first ("integers are little-endian")
unfoldable pub le : ℕ → List ℕ → ℕ → ℕ
le zero p o = 0
le (suc n) p o = get_or p o 0 + 256 * le n p (suc o)

-- the number in the n bytes of p from o on, highest byte first; a byte past the end counts as 0 ("zero padded, read big-endian")
unfoldable pub be : ℕ → List ℕ → ℕ → ℕ
be zero p o = 0
be (suc n) p o = get_or p o 0 * 256 ^ n + be n p (suc o)

-- the n bytes of p from o on
unfoldable pub part : ℕ → List ℕ → ℕ → List ℕ
part n p o = take n (drop o p)

-- the n lowest bytes of v, lowest first
unfoldable pub bytes : ℕ → ℕ → List ℕ
bytes zero v = []
bytes (suc n) v = v % 256 ∷ bytes n (v / 256)

-- the n bytes of v, highest first
unfoldable pub big_bytes : ℕ → ℕ → List ℕ
big_bytes zero v = []
big_bytes (suc n) v = v / 256 ^ n ∷ big_bytes n (v % 256 ^ n)

-- p with the run bs from o on; a byte that would stand past the end is left out
unfoldable pub put : List ℕ → ℕ → List ℕ → List ℕ
put p o [] = p
put p o (b ∷ bs) = put (set p o b) (suc o) bs
