-- Numbers and runs as std's methods say them: `le` and `be` as what `from_le_bytes`, `from_be_bytes` and `swap_bytes` give of a part, the
-- bytes of a number as those of `to_le_bytes`, and the `put` that `copy_from_slice` and `copy_within` leave. Assumes nothing.
use Rattle.std.proofs.Common.{◌≡◌, refl, sym, ap, ◌∙◌, List, append_assoc, ℕ, zero, suc, ◌+◌, ◌/◌, ◌%◌, ◌^◌, ◌≤◌, ◌<◌, pow-suc, add-zero, arith, Fits, length, get_or, set, drop, drop-drop}
use native.Mathlib.Nat.{div-div-eq-div-mul}
use borrow.Rule.Slice.PartMut.{put_mid}
use lib.Seq.{paste}
use Rattle.std.specs.Int.{w8, w16, w32, w64, from_le_bytes, from_be_bytes, to_le_bytes, bytes_low_first, swap_bytes}
use Rattle.octets.specs.Bytes.{le, be, part, bytes, put}
use Rattle.octets.proofs.Alike.{le-part, be-part}
use Rattle.octets.proofs.Little.{le-one, le_two, le_four, le_eight, bytes_le}
use Rattle.octets.proofs.Big.{be_four, be_eight}
use Rattle.octets.proofs.Put.{put_eq}
use Rattle.octets.proofs.Part.{length-part-le}

-- ---- the number in a part
module _ (p : List ℕ) (o : ℕ) where
  le_of_part : (n : ℕ) → le n (part n p o) 0 ≡ le n p o
  le_of_part n = rw (le-part n n p o 0 (omega arith), add-zero o)

  be_of_part : (n : ℕ) → be n (part n p o) 0 ≡ be n p o
  be_of_part n = rw (be-part n n p o 0 (omega arith), add-zero o)

  pub le_2 : le 2 p o ≡ from_le_bytes w16 (part 2 p o)
  le_2 = omega (arith, le_two (part 2 p o) 0, le_of_part 2)

  pub le_4 : le 4 p o ≡ from_le_bytes w32 (part 4 p o)
  le_4 = omega (arith, le_four (part 4 p o) 0, le_of_part 4)

  pub le_8 : le 8 p o ≡ from_le_bytes w64 (part 8 p o)
  le_8 = let b = part 8 p o in omega (arith, le_eight b 0, le_four b 0, le_four b 4, le_of_part 8)

  pub be_4 : be 4 p o ≡ from_be_bytes w32 (part 4 p o)
  be_4 = omega (arith, be_four (part 4 p o) 0, be_of_part 4)

-- ---- the bytes of a number
-- from byte i on, where r is what is left of it there
low_bytes : (i n v r : ℕ) → r ≡ v / 256 ^ i → bytes n r ≡ bytes_low_first i n v
unfolding bytes
low_bytes i zero v r e = refl
low_bytes zero (suc n) v r e = let f : r ≡ v = omega arith in rw (f, low_bytes 1 n v (v / 256) (omega arith))
low_bytes (suc i) (suc n) v r e =
    let f : r / 256 ≡ v / 256 ^ suc (suc i) = rw (e, div-div-eq-div-mul, pow-suc 256 (suc i)) in rw (low_bytes (suc (suc i)) n v (r / 256) f, e)

module _ (v : ℕ) where
  pub bytes_2 : bytes 2 v ≡ to_le_bytes w16 v
  bytes_2 = low_bytes 0 2 v v (omega arith)

  pub bytes_4 : bytes 4 v ≡ to_le_bytes w32 v
  bytes_4 = low_bytes 0 4 v v (omega arith)

  pub bytes_8 : bytes 8 v ≡ to_le_bytes w64 v
  bytes_8 = low_bytes 0 8 v v (omega arith)

-- a byte put by a store
pub put_byte : (p : List ℕ) (o v : ℕ) → v < 256 → put p o (bytes 1 v) ≡ set p o v
unfolding bytes put
put_byte p o v h = let e : v % 256 ≡ v = omega arith in rw e

-- the number in a part, read from the highest byte
pub be_8 : (p : List ℕ) (o : ℕ) → ((i : ℕ) → Fits w8 (get_or p i 0)) → o + 8 ≤ length p → be 8 p o ≡ swap_bytes w64 (le 8 p o)
be_8 p o h l =
    let b = part 8 p o in
    let same : to_le_bytes w64 (le 8 p o) ≡ b = sym (bytes_8 (le 8 p o)) ∙ bytes_le 8 p o (λ i. (h i).fits) l in
    let turned : from_be_bytes w64 b ≡ be 8 p o = omega (arith, be_eight b 0, be_four b 0, be_four b 4, be_of_part p o 8) in
    sym (ap (from_be_bytes w64) same ∙ turned)

pub ruleset numbers = (le-one, le_2, le_4, le_8, be_4, be_8, bytes_2, bytes_4, bytes_8, put_byte)

-- ---- runs
-- a run over the k places that it fills
pub copied : (p : List ℕ) (o k : ℕ) (bs : List ℕ) → length bs ≡ k → o + k ≤ length p → put_mid o k p bs ≡ put p o bs
copied p o k bs e h = rw (put_eq p o bs (omega arith), drop-drop, e, append_assoc)

-- a run moved within the list
pub moved : (p : List ℕ) (d n i : ℕ) → i + n ≤ length p → d + n ≤ length p → put p d (part n p i) ≡ paste p d (drop i p) n
unfolding part
moved p d n i h l = let long : length (part n p i) ≡ n = length-part-le n p i h in rw (put_eq p d (part n p i) (omega arith), long, part)

pub ruleset runs = (copied, moved)
