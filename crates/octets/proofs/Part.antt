-- Laws of a part of a list: its length, its elements, its first one. Assumes nothing.
use Rattle.std.proofs.Common.{◌≡◌, List, [], ◌∷◌, ℕ, suc, ◌+◌, ◌-◌, ◌≤◌, ◌<◌, min, arith, length, get_or, drop, length-take, length-drop, drop-cons, get_or-take, get_or-drop}
use Rattle.octets.specs.Bytes.{part}

pub length_part : (n : ℕ) (p : List ℕ) (o : ℕ) → length (part n p o) ≡ min n (length p - o)
unfolding part
length_part n p o = simp (length-take, length-drop)

-- the length of a part that lies in the list
pub length-part-le : (n : ℕ) (p : List ℕ) (o : ℕ) → o + n ≤ length p → length (part n p o) ≡ n
length-part-le n p o h = rw length_part (omega arith)

pub part_at : (n : ℕ) (p : List ℕ) (o i : ℕ) → i < n → get_or (part n p o) i 0 ≡ get_or p (o + i) 0
unfolding part
part_at n p o i h = rw (get_or-take n (drop o p) i 0 h, get_or-drop o p i 0)

pub part_none : (p : List ℕ) (o n : ℕ) → n ≡ 0 → part n p o ≡ []
unfolding part
part_none p o n e = rw e

pub part-cons : (n : ℕ) (p : List ℕ) (o : ℕ) → o < length p → part (suc n) p o ≡ get_or p o 0 ∷ part n p (suc o)
unfolding part
part-cons n p o h = rw (drop-cons p o 0 h)
