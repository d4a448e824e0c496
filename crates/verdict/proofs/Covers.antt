-- The map of bytes: a number that reads 0 has only free bytes, a number of marks marks its bytes; and pieces that were all entered are disjoint. Assumes nothing.
use Rattle.std.proofs.Common.{◌≡◌, refl, sym, ap, ◌∙◌, true, List, ℕ, zero, suc, ◌+◌, ◌-◌, ◌*◌, ◌%◌, ◌^◌, ◌≤◌, ◌<◌, min, max, arith, le-leb, length, get_or, replicate, mul_assoc, mul_right_comm, add-mul, zero-mul, mod-eq_of_lt, mul-lt-mul_of_pos_right, pow_pos, ltb-true, ltb}
use native.Mathlib.Decide.{dec_lt, dec_le}
use lib.ListN.{length-replicate}
use native.Mathlib.Nat.{pow-succ', add-mul-mod_self_left, eq_of_mul-eq-mul_right}
use Rattle.octets.proofs.Little.{le-lt, length-bytes}
use Rattle.octets.specs.Bytes.{IsBytes, le, bytes, put}
use Rattle.paper.specs.Verdicts.{Piece, apart}
use Rattle.paper.specs.declared.page.Header.{Header}
use Rattle.verdict.specs.Pieces.{piece_at}
use Rattle.verdict.specs.Marks.{disjoint_to, Free, Entered, Marked}
use Rattle.verdict.proofs.Overlaps.{Clear, AllClear, all_none, all_more, clear-to}
use Rattle.octets.proofs.Put.{length-put, put_below, put-above, put-inside}
use Rattle.paper.specs.Lists.{all}
use Rattle.paper.proofs.Lists.{all-at}

-- ---- free bytes
word-free : (n : ℕ) (m : List ℕ) (o : ℕ) → le n m o ≡ 0 → (k : ℕ) → o ≤ k → k < o + n → get_or m k 0 ≡ 0
unfolding le
word-free zero m o e k a b = absurd (omega arith)
word-free (suc n) m o e k a b = go (dec_le k o) (word-free n m (suc o) (omega arith) k)
  where
    go : Dec (k ≤ o) → (suc o ≤ k → k < suc o + n → get_or m k 0 ≡ 0) → get_or m k 0 ≡ 0
    go (yes q) next = let g : k ≡ o = omega arith in rw g (omega arith)
    go (no q) next = next (omega arith) (omega arith)

-- free up to k; the n bytes from i on, where i ≤ k, read x
pub free-word : (n : ℕ) (m : List ℕ) (a k i x : ℕ) → Free m a k → i ≤ k → x ≡ le n m i → x ≡ 0 → Free m a (i + n)
free-word n m a k i x f l e z = record { none = λ q b c. go q b c (dec_lt q k) }
  where
    go : (q : ℕ) → a ≤ q → q < i + n → Dec (q < k) → get_or m q 0 ≡ 0
    go q b c (yes r) = f.none q b r
    go q b c (no r) = word-free n m i (sym e ∙ z) q (omega arith) c

pub free_upto : (m : List ℕ) (a b k : ℕ) → Free m a k → b ≤ k → Free m a b
free_upto m a b k f l = record { none = λ q u v. f.none q u (omega arith) }

-- the n lowest bytes of a number of n + j bytes
le-split : (n j : ℕ) (m : List ℕ) (o : ℕ) → le (n + j) m o ≡ le n m o + 256 ^ n * le j m (o + n)
unfolding le
le-split zero j m o = let e : 0 + j ≡ j = omega arith in let z : o + 0 ≡ o = omega arith in rw (e, z) (omega arith)
le-split (suc n) j m o =
    let e : suc n + j ≡ suc (n + j) = omega arith in
    let z : o + suc n ≡ suc o + n = omega arith in
    let next = le-split n j m (suc o) in
    let q : 256 ^ suc n * le j m (suc o + n) ≡ 256 * (256 ^ n * le j m (suc o + n)) = rw (pow-succ' 256 n) (mul_assoc 256 (256 ^ n) (le j m (suc o + n))) in
    rw (e, z) (omega arith)

-- a shift that leaves the n lowest bytes
shifted : (n : ℕ) → 0 < n → n ≤ 8 → 256 ^ n * 2 ^ (64 - 8 * n) ≡ 18446744073709551616
shifted zero k l = absurd (omega arith)
shifted (suc zero) k l = refl
shifted (suc (suc zero)) k l = refl
shifted (suc (suc (suc zero))) k l = refl
shifted (suc (suc (suc (suc zero)))) k l = refl
shifted (suc (suc (suc (suc (suc zero))))) k l = refl
shifted (suc (suc (suc (suc (suc (suc zero)))))) k l = refl
shifted (suc (suc (suc (suc (suc (suc (suc zero))))))) k l = refl
shifted (suc (suc (suc (suc (suc (suc (suc (suc zero)))))))) k l = refl
shifted (suc (suc (suc (suc (suc (suc (suc (suc (suc n))))))))) k l = absurd (omega arith)

-- a number l + P * r, of which a factor c moves the second part out of W = P * c
cut_off : (P c W l r : ℕ) → P * c ≡ W → l < P → 0 < c → ((l + P * r) * c) % W ≡ 0 → l ≡ 0
cut_off P c W l r e k z q =
    let apart : (l + P * r) * c ≡ l * c + W * r = add-mul l (P * r) c ∙ ap (λ t. l * c + t) (mul_right_comm P r c ∙ rw e) in
    let less : l * c < W = rw (← e) (mul-lt-mul_of_pos_right k z) in
    let none : l * c ≡ 0 = sym (mod-eq_of_lt less) ∙ sym (add-mul-mod_self_left (l * c) W r) ∙ rw apart at q in
    eq_of_mul-eq-mul_right c z l 0 (none ∙ sym (zero-mul c))

-- free up to k; of the number at k the n lowest bytes are 0
pub free_left : (m : List ℕ) (a k n x : ℕ) → IsBytes m → Free m a k → 0 < n → n ≤ 8 → x ≡ le 8 m k → (x * 2 ^ (64 - 8 * n)) % 18446744073709551616 ≡ 0 → Free m a (k + n)
free_left m a k n x bytes f z l e r =
    let j : n + (8 - n) ≡ 8 = omega arith in
    let split : x ≡ le n m k + 256 ^ n * le (8 - n) m (k + n) = e ∙ rw j at (le-split n (8 - n) m k) in
    let none = cut_off (256 ^ n) (2 ^ (64 - 8 * n)) 18446744073709551616 (le n m k) (le (8 - n) m (k + n)) (shifted n z l) (le-lt n m k bytes) (pow_pos (64 - 8 * n)) (rw split at r) in
    free-word n m a k k (le n m k) f (omega arith) refl none

-- ---- marked bytes
pub marked-none : (m : List ℕ) (a : ℕ) → Marked m m a a
marked-none m a = record { inside = λ k l u. absurd (omega arith); kept = λ k e. e }

-- marked up to k; a run of marks at i, where i ≤ k
module _ (m₀ m : List ℕ) (a k i : ℕ) (bs : List ℕ) (pos : all (ltb 0) bs ≡ true) (M : Marked m₀ m a k) (l : i ≤ k) (r : i + length bs ≤ length m) where
  run_inside : (q : ℕ) → i ≤ q → q < i + length bs → 0 < get_or (put m i bs) q 0
  run_inside q b c =
      let e : i + (q - i) ≡ q = omega arith in
      rw (← e, put-inside m i bs (q - i) r (omega arith)) (ltb-true 0 (get_or bs (q - i) 0) (all-at (ltb 0) bs pos (q - i) 0 (omega arith)))

  run-kept : (q : ℕ) → 0 < get_or m q 0 → 0 < get_or (put m i bs) q 0
  run-kept q e = go (dec_lt q i) (dec_lt q (i + length bs))
    where
      go : Dec (q < i) → Dec (q < i + length bs) → 0 < get_or (put m i bs) q 0
      go (yes b) c = rw (put_below m i bs q b) e
      go (no b) (yes c) = run_inside q (omega arith) c
      go (no b) (no c) = rw (put-above m i bs q (omega arith)) e

  marked-run : Marked m₀ (put m i bs) a (i + length bs)
  marked-run = record { inside = λ q b c. go q b c (dec_lt q i); kept = λ q e. run-kept q (M.kept q e) }
    where
      go : (q : ℕ) → a ≤ q → q < i + length bs → Dec (q < i) → 0 < get_or (put m i bs) q 0
      go q b c (yes d) = run-kept q (M.inside q b (omega arith))
      go q b c (no d) = run_inside q (omega arith) c

-- a number of n marks
pub record Marks (n v : ℕ) : Type 0 where
  pub above : all (ltb 0) (bytes n v) ≡ true

four_marks : Marks 4 16843009
unfolding bytes all
four_marks = record { above = refl }

pub marked-word : (n v : ℕ) → Marks n v → (m₀ m after : List ℕ) (a k i : ℕ) → Marked m₀ m a k → i ≤ k → i + n ≤ length m → after ≡ put m i (bytes n v) → Marked m₀ after a (i + n)
marked-word n v o m₀ m after a k i M l r e =
    let s = length-bytes n v in
    rw e (rw s at (marked-run m₀ m a k i (bytes n v) o.above M l (rw s r)))

pub marked_upto : (m after : List ℕ) (a b k : ℕ) → Marked m after a k → b ≤ k → Marked m after a b
marked_upto m after a b k M l = record { inside = λ q u v. M.inside q u (omega arith); kept = M.kept }

-- two numbers of four marks that reach from a to b
pub marked_halves : (m mid after : List ℕ) (a b : ℕ) → a + 4 ≤ b → b ≤ a + 8 → b ≤ length m → mid ≡ put m a (bytes 4 16843009) → after ≡ put mid (b - 4) (bytes 4 16843009)
    → Marked m after a b
marked_halves m mid after a b l u r e f =
    let same : length mid ≡ length m = rw e (length-put m a (bytes 4 16843009)) in
    let first = marked-word 4 16843009 four_marks m m mid a a a (marked-none m a) (omega arith) (omega arith) e in
    marked_upto m after a b (b - 4 + 4) (marked-word 4 16843009 four_marks m mid after a (a + 4) (b - 4) first (omega arith) (omega (arith, same)) f) (omega arith)

pub long : (n : ℕ) → length (replicate {A = ℕ} n 0) ≡ n
long n = length-replicate n 0

-- ---- the map of the first n pieces, each of which was entered
module _ (w : ℕ) (p : List ℕ) (h : Header) where
  pub record Cover (n : ℕ) (m : List ℕ) : Type 0 where
    pub marks : (i : ℕ) → i < n → (k : ℕ) → (piece_at w p h i).lo ≤ k → k < (piece_at w p h i).hi → 0 < get_or m k 0
    pub clear : AllClear w p h n

  -- none is marked at first
  pub cover_none : (m : List ℕ) → Cover 0 m
  cover_none m = record { marks = λ i l. absurd (omega arith); clear = all_none w p h }

  module _ (n : ℕ) (m after : List ℕ) (lo hi : ℕ) (C : Cover n m) (a : lo ≡ (piece_at w p h n).lo) (b : hi ≡ (piece_at w p h n).hi) (E : Entered m after lo hi) where
    -- a byte that was free and marked
    both_ways : (k : ℕ) → get_or m k 0 ≡ 0 → 0 < get_or m k 0 → ⊥
    both_ways k e f = omega arith

    apart-here : Clear w p h n n
    unfolding apart
    apart-here i l = le-leb (min x.hi y.hi) (max x.lo y.lo) (go (dec_le (min x.hi y.hi) (max x.lo y.lo)))
      where
        x : Piece
        x = piece_at w p h i

        y : Piece
        y = piece_at w p h n

        go : Dec (min x.hi y.hi ≤ max x.lo y.lo) → min x.hi y.hi ≤ max x.lo y.lo
        go (yes q) = q
        go (no q) =
            let k = max x.lo y.lo in
            absurd (both_ways k (E.free.none k (omega arith) (omega arith)) (C.marks i l k (omega arith) (omega arith)))

    pub cover-more : Cover (n + 1) after
    cover-more = record { marks = λ i l k u v. go i l k u v (dec_lt i n); clear = all_more w p h n n C.clear (omega arith) apart-here }
      where
        go : (i : ℕ) → i < n + 1 → (k : ℕ) → (piece_at w p h i).lo ≤ k → k < (piece_at w p h i).hi → Dec (i < n) → 0 < get_or after k 0
        go i l k u v (yes q) = E.marked.kept k (C.marks i q k u v)
        go i l k u v (no q) =
            let g : i ≡ n = omega arith in
            let c : lo ≤ k = rw (a, ← g) u in
            let d : k < hi = rw (b, ← g) v in
            E.marked.inside k c d

  pub cover_all : (n j : ℕ) (m : List ℕ) → n ≤ j → Cover j m → disjoint_to w p h n ≡ true
  cover_all n j m l C = clear-to w p h n (λ k q. C.clear k (omega arith))
