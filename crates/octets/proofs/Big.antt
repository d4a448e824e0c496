-- Laws of big-endian numbers, `be`: how large a number is, that equal numbers have equal bytes, and the forms in which code reads four
-- and eight bytes. Assumes nothing.
use Rattle.std.proofs.Common.{◌≡◌, refl, ap, List, [], ◌∷◌, ℕ, zero, suc, ◌+◌, ◌*◌, ◌/◌, ◌%◌, ◌^◌, ◌≤◌, ◌<◌, pow-suc, mul-le-mul_right, suc-mul, add-zero, zero-add, suc-add, div-lt_iff_lt-mul, mod-lt, mod-eq_of_lt, arith, length, get_or, take}
use native.Mathlib.Nat.{mul-add-div_right, div-eq_of_lt, mul-add-mod_self_right}
use native.Mathlib.Numerals.{towards_suc}
use native.Mathlib.Decide.{dec_lt}
use Rattle.octets.specs.Bytes.{IsBytes, be, big_bytes}
use Rattle.octets.proofs.Alike.{Alike, be-alike}

-- ---- two digits in base P
-- the higher digit decides
pub digits_lt : (P x y u v : ℕ) → u < P → x < y → x * P + u < y * P + v
digits_lt P x y u v hu h = omega (arith, mul-le-mul_right P h, suc-mul x P)

-- and equal numbers have equal digits
pub digits_eq : (P x y u v : ℕ) → u < P → v < P → x * P + u ≡ y * P + v → (x ≡ y) × (u ≡ v)
digits_eq P x y u v hu hv e = go (dec_lt x y) (dec_lt y x)
  where
    go : Dec (x < y) → Dec (y < x) → (x ≡ y) × (u ≡ v)
    go (yes h) d = absurd (omega (arith, digits_lt P x y u v hu h))
    go (no h) (yes k) = absurd (omega (arith, digits_lt P y x v u hv k))
    go (no h) (no k) = let f : x ≡ y = omega arith in (f, omega (arith, ap (λ (n : ℕ). n * P) f))

-- ---- the value of a number
pub be-one : (p : List ℕ) (o : ℕ) → be 1 p o ≡ get_or p o 0
unfolding be
be-one p o = omega arith

-- a byte more in front
pub be-cons : (n x : ℕ) (p : List ℕ) → be (suc n) (x ∷ p) 0 ≡ x * 256 ^ n + be n p 0
unfolding be
be-cons n x p = rw (be-alike n (x ∷ p) 1 p 0 (λ i l. rw (suc-add 0 i, zero-add i)))

pub be-lt : (n : ℕ) (p : List ℕ) (o : ℕ) → IsBytes p → be n p o < 256 ^ n
unfolding be
be-lt zero p o h = omega arith
be-lt (suc n) p o h =
    let first = h o in
    let rest = be-lt n p (suc o) h in
    rw pow-suc (omega (arith, digits_lt (256 ^ n) (get_or p o 0) 256 (be n p (suc o)) 0 rest first))

-- equal numbers have equal bytes
pub be_same : (n : ℕ) (p : List ℕ) (o : ℕ) (q : List ℕ) (r : ℕ) → IsBytes p → IsBytes q → be n p o ≡ be n q r → Alike n p o q r
unfolding be
be_same zero p o q r hp hq e k h = absurd (omega arith)
be_same (suc n) p o q r hp hq e zero h =
    rw (add-zero o, add-zero r) (digits_eq (256 ^ n) (get_or p o 0) (get_or q r 0) (be n p (suc o)) (be n q (suc r)) (be-lt n p (suc o) hp) (be-lt n q (suc r) hq) e).0
be_same (suc n) p o q r hp hq e (suc k) h =
    let d = digits_eq (256 ^ n) (get_or p o 0) (get_or q r 0) (be n p (suc o)) (be n q (suc r)) (be-lt n p (suc o) hp) (be-lt n q (suc r) hq) e in
    let f : o + suc k ≡ suc o + k = omega arith in
    let g : r + suc k ≡ suc r + k = omega arith in
    rw (f, g) (be_same n p (suc o) q (suc r) hp hq d.1 k (omega arith))

-- ---- the bytes of a number, highest first
pub length-big_bytes : (n v : ℕ) → length (big_bytes n v) ≡ n
unfolding big_bytes
length-big_bytes zero v = refl
length-big_bytes (suc n) v = ap suc (length-big_bytes n (v % 256 ^ n))

pub big_bytes-bytes : (n v : ℕ) → v < 256 ^ n → IsBytes (big_bytes n v)
unfolding big_bytes
big_bytes-bytes zero v h i = omega arith
big_bytes-bytes (suc n) v h zero =
    let m : v < 256 * 256 ^ n = omega arith in
    let z : 0 < 256 ^ n = omega arith in
    (div-lt_iff_lt-mul z).1 m
big_bytes-bytes (suc n) v h (suc i) = let z : 0 < 256 ^ n = omega arith in big_bytes-bytes n (v % 256 ^ n) (mod-lt v z) i

-- the bytes of the number that a short list of bytes makes, zero padded, are that list
pub big_bytes-be : (n : ℕ) (s : List ℕ) → IsBytes s → length s ≤ n → take (length s) (big_bytes n (be n s 0)) ≡ s
unfolding big_bytes
big_bytes-be zero [] h l = refl
big_bytes-be zero (x ∷ xs) h l = absurd (omega arith)
big_bytes-be (suc n) [] h l = refl
big_bytes-be (suc n) (x ∷ xs) h l =
    let b : be n xs 0 < 256 ^ n = be-lt n xs 0 (λ i. h (suc i)) in
    let z : 0 < 256 ^ n = omega arith in
    let d : (x * 256 ^ n + be n xs 0) / 256 ^ n ≡ x = rw (mul-add-div_right z x (be n xs 0), div-eq_of_lt b, add-zero x) in
    let m : (x * 256 ^ n + be n xs 0) % 256 ^ n ≡ be n xs 0 = rw (mul-add-mod_self_right x (256 ^ n) (be n xs 0), mod-eq_of_lt b) in
    rw (be-cons n x xs, d, m, big_bytes-be n xs (λ i. h (suc i)) (omega arith))

-- ---- as code reads them
pub be_four : (p : List ℕ) (o : ℕ)
    → be 4 p o ≡ get_or p (o + 3) 0 + 256 * get_or p (o + 2) 0 + (65536 * get_or p (o + 1) 0 + 16777216 * get_or p o 0)
unfolding be
be_four p o = simp towards_suc (omega arith)

-- eight bytes are four and four
pub be_eight : (p : List ℕ) (o : ℕ) → be 8 p o ≡ be 4 p (o + 4) + 4294967296 * be 4 p o
unfolding be
be_eight p o = simp towards_suc (omega arith)
