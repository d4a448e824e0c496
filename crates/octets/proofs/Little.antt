-- Laws of little-endian numbers, `le`, and of a number's bytes, `bytes`: how large a number is, what its bytes are, that it reads back,
-- and the forms in which code reads and writes two, four and eight bytes. Assumes nothing.
use Rattle.std.proofs.Common.{◌≡◌, refl, sym, ap, ◌∙◌, List, ◌∷◌, ◌++◌, ℕ, zero, suc, ◌+◌, ◌*◌, ◌/◌, ◌%◌, ◌^◌, ◌≤◌, ◌<◌, min, pow-suc, div-lt_iff_lt-mul, add-zero, zero-add, suc-add, arith, length, get_or, ext_get_or}
use native.Mathlib.Nat.{mul-add-mod_self_left}
use native.Mathlib.Numerals.{towards_suc}
use Rattle.octets.specs.Bytes.{IsBytes, le, part, bytes, put}
use Rattle.octets.proofs.Put.{put_back}
use Rattle.octets.proofs.Alike.{Alike, le-alike, alike-inside}
use Rattle.octets.proofs.Part.{length-part-le, part_at}

-- ---- the bytes of a number
pub length-bytes : (n v : ℕ) → length (bytes n v) ≡ n
unfolding bytes
length-bytes zero v = refl
length-bytes (suc n) v = ap suc (length-bytes n (v / 256))

pub bytes-bytes : (n v : ℕ) → IsBytes (bytes n v)
unfolding bytes
bytes-bytes zero v k = omega arith
bytes-bytes (suc n) v zero = omega arith
bytes-bytes (suc n) v (suc k) = bytes-bytes n (v / 256) k

-- ---- the value of a number
pub le-one : (p : List ℕ) (o : ℕ) → le 1 p o ≡ get_or p o 0
unfolding le
le-one p o = omega arith

-- a byte more in front
le-cons : (n x : ℕ) (p : List ℕ) → le (suc n) (x ∷ p) 0 ≡ x + 256 * le n p 0
unfolding le
le-cons n x p = rw (le-alike n (x ∷ p) 1 p 0 (λ i l. rw (suc-add 0 i, zero-add i)))

pub le-lt : (n : ℕ) (p : List ℕ) (o : ℕ) → IsBytes p → le n p o < 256 ^ n
unfolding le
le-lt zero p o h = omega arith
le-lt (suc n) p o h = rw pow-suc (omega (arith, h o, le-lt n p (suc o) h))

-- a number below 256 ^ n is what its n bytes say
pub le_bytes : (n v : ℕ) → v < 256 ^ n → le n (bytes n v) 0 ≡ v
unfolding le bytes
le_bytes zero v l = omega arith
le_bytes (suc n) v l =
    le-cons n (v % 256) (bytes n (v / 256))
    ∙ rw (le_bytes n (v / 256) ((div-lt_iff_lt-mul (omega arith)).1 (rw pow-suc at l))) (omega arith)

-- and it reads back where it was put
pub le-put_same : (n : ℕ) (p : List ℕ) (o v : ℕ) → o + n ≤ length p → v < 256 ^ n → le n (put p o (bytes n v)) o ≡ v
le-put_same n p o v h l =
    let len = length-bytes n v in
    let inside : Alike n (put p o (bytes n v)) (o + 0) (bytes n v) 0 = alike-inside n p o (bytes n v) 0 (omega arith) (omega arith) in
    rw (add-zero o) at (le-alike n (put p o (bytes n v)) (o + 0) (bytes n v) 0 inside) ∙ le_bytes n v l

-- equal numbers have equal bytes
pub le_same : (n : ℕ) (p : List ℕ) (o : ℕ) (q : List ℕ) (r : ℕ) → IsBytes p → IsBytes q → le n p o ≡ le n q r → Alike n p o q r
unfolding le
le_same zero p o q r hp hq e k h = absurd (omega arith)
le_same (suc n) p o q r hp hq e zero h = rw (add-zero o, add-zero r) (omega (arith, hp o, hq r))
le_same (suc n) p o q r hp hq e (suc k) h =
    let f : o + suc k ≡ suc o + k = omega arith in
    let g : r + suc k ≡ suc r + k = omega arith in
    rw (f, g) (le_same n p (suc o) q (suc r) hp hq (omega (arith, hp o, hq r)) k (omega arith))

-- the bytes of a number that was read are those it was read from
pub bytes_le : (n : ℕ) (p : List ℕ) (o : ℕ) → IsBytes p → o + n ≤ length p → bytes n (le n p o) ≡ part n p o
bytes_le n p o h l =
    let len = length-bytes n (le n p o) in
    let same : Alike n (bytes n (le n p o)) 0 p o =
    le_same n (bytes n (le n p o)) 0 p o (bytes-bytes n (le n p o)) h (le_bytes n (le n p o) (le-lt n p o h)) in
    ext_get_or 0 (bytes n (le n p o)) (part n p o) (len ∙ sym (length-part-le n p o l))
    (λ i k. let m : i < n = omega arith in rw (zero-add i) at (same i m) ∙ sym (part_at n p o i m))

-- so a number written back where it was read changes nothing
pub put-le : (n : ℕ) (p : List ℕ) (o : ℕ) → IsBytes p → o + n ≤ length p → put p o (bytes n (le n p o)) ≡ p
put-le n p o h l = rw (bytes_le n p o h l) (put_back p o n l)

-- ---- as code reads and writes them
pub le_two : (p : List ℕ) (o : ℕ) → le 2 p o ≡ get_or p o 0 + 256 * get_or p (o + 1) 0
unfolding le
le_two p o = simp towards_suc (omega arith)

pub le_four : (p : List ℕ) (o : ℕ)
    → le 4 p o ≡ get_or p o 0 + 256 * get_or p (o + 1) 0 + (65536 * get_or p (o + 2) 0 + 16777216 * get_or p (o + 3) 0)
unfolding le
le_four p o = simp towards_suc (omega arith)

-- eight bytes are four and four
pub le_eight : (p : List ℕ) (o : ℕ) → le 8 p o ≡ le 4 p o + 4294967296 * le 4 p (o + 4)
unfolding le
le_eight p o = simp towards_suc (omega arith)

pub bytes_eight : (v : ℕ) → bytes 8 v ≡ bytes 4 (v % 4294967296) ++ bytes 4 (v / 4294967296)
unfolding bytes
bytes_eight v =
    let h1 : v / 256 ≡ 16777216 * (v / 4294967296) + v % 4294967296 / 256 = omega arith in
    let h2 : v / 256 / 256 ≡ 65536 * (v / 4294967296) + v % 4294967296 / 256 / 256 = omega arith in
    let h3 : v / 256 / 256 / 256 ≡ 256 * (v / 4294967296) + v % 4294967296 / 256 / 256 / 256 = omega arith in
    let e0 : v % 256 ≡ v % 4294967296 % 256 = omega arith in
    let e1 : v / 256 % 256 ≡ v % 4294967296 / 256 % 256 = omega arith in
    let e2 : v / 256 / 256 % 256 ≡ v % 4294967296 / 256 / 256 % 256 = omega arith in
    let e3 : v / 256 / 256 / 256 % 256 ≡ v % 4294967296 / 256 / 256 / 256 % 256 = rw (h3, mul-add-mod_self_left) in
    let e : v / 256 / 256 / 256 / 256 ≡ v / 4294967296 = omega arith in
    cc

-- a width of at most eight is read whole
pub le_least : (w : ℕ) (p : List ℕ) (o : ℕ) → w ≤ 8 → le (min w 8) p o ≡ le w p o
le_least w p o h = let e : min w 8 ≡ w = omega arith in rw e

-- and of a wider one the lowest eight bytes
pub le_most : (w : ℕ) (p : List ℕ) (o : ℕ) → 8 ≤ w → le (min w 8) p o ≡ le 8 p o
le_most w p o h = let e : min w 8 ≡ 8 = omega arith in rw e

pub ruleset widths = (le_least, le_most)
