-- Laws of `put`: lengths, what stands below, above and inside a run, runs side by side and on top of each other, and a run that was
-- written through a lent part. None but those that look inside the run asks for a length. Assumes nothing.
use Rattle.std.proofs.Common.{◌≡◌, refl, ◌∙◌, List, [], ◌∷◌, ◌++◌, append-nil, ℕ, zero, suc, ◌+◌, ◌-◌, ◌≤◌, ◌<◌, add-zero, add-suc, suc-add, arith, length, get_or, set, take, drop, length-set, length-drop, drop_of_length-le, take-append-drop, get_or-drop, get_or-set_same, get_or-set_other, set-set, drop-set-lt, take_all}
use borrow.Rule.Slice.PartMut.{put_mid, mid_of}
use lib.Seq.{sets, sets-eq, set_comm, set-get_or, drop-set-add, take-set-le, take-set-lt}
use Rattle.octets.specs.Bytes.{IsBytes, part, put}
use Rattle.octets.proofs.Part.{part_none, part-cons}

pub length-put : (p : List ℕ) (o : ℕ) (bs : List ℕ) → length (put p o bs) ≡ length p
unfolding put
length-put p o [] = refl
length-put p o (b ∷ bs) = length-put (set p o b) (suc o) bs ∙ length-set p o b

put_sets : (p : List ℕ) (o : ℕ) (bs : List ℕ) → put p o bs ≡ sets p o bs
unfolding put
put_sets p o [] = refl
put_sets p o (b ∷ bs) = put_sets (set p o b) (suc o) bs

-- what `put` is, without recursion
pub put_eq : (p : List ℕ) (o : ℕ) (bs : List ℕ) → o + length bs ≤ length p → put p o bs ≡ take o p ++ bs ++ drop (o + length bs) p
put_eq p o bs h = put_sets p o bs ∙ sets-eq bs p o h

-- ---- a place and a run
pub put_below : (p : List ℕ) (o : ℕ) (bs : List ℕ) (i : ℕ) → i < o → get_or (put p o bs) i 0 ≡ get_or p i 0
unfolding put
put_below p o [] i h = refl
put_below p o (b ∷ bs) i h = put_below (set p o b) (suc o) bs i (omega arith) ∙ get_or-set_other p o i b 0 (omega arith)

pub put-above : (p : List ℕ) (o : ℕ) (bs : List ℕ) (i : ℕ) → o + length bs ≤ i → get_or (put p o bs) i 0 ≡ get_or p i 0
unfolding put
put-above p o [] i h = refl
put-above p o (b ∷ bs) i h = put-above (set p o b) (suc o) bs i (omega arith) ∙ get_or-set_other p o i b 0 (omega arith)

pub put-inside : (p : List ℕ) (o : ℕ) (bs : List ℕ) (j : ℕ) → o + length bs ≤ length p → j < length bs → get_or (put p o bs) (o + j) 0 ≡ get_or bs j 0
unfolding put
put-inside p o [] j h l = absurd (omega arith)
put-inside p o (b ∷ bs) zero h l =
    rw (add-zero o) (put_below (set p o b) (suc o) bs o (omega arith) ∙ get_or-set_same p o b 0 (omega arith))
put-inside p o (b ∷ bs) (suc j) h l =
    let e : o + suc j ≡ suc o + j = omega arith in
    rw e (put-inside (set p o b) (suc o) bs j (rw length-set (omega arith)) (omega arith))

-- ---- a store and a run
-- a store below a run may as well come after it
pub put-set_below : (p : List ℕ) (o : ℕ) (bs : List ℕ) (i x : ℕ) → i < o → put (set p i x) o bs ≡ set (put p o bs) i x
unfolding put
put-set_below p o [] i x h = refl
put-set_below p o (b ∷ bs) i x h = rw (set_comm p i o x b (omega arith)) (put-set_below (set p o b) (suc o) bs i x (omega arith))

-- and so may one above it
pub put-set-above : (p : List ℕ) (o : ℕ) (bs : List ℕ) (i x : ℕ) → o + length bs ≤ i → put (set p i x) o bs ≡ set (put p o bs) i x
unfolding put
put-set-above p o [] i x h = refl
put-set-above p o (b ∷ bs) i x h = rw (set_comm p i o x b (omega arith)) (put-set-above (set p o b) (suc o) bs i x (omega arith))

-- ---- two runs
-- one after the other
pub put-append : (p : List ℕ) (o : ℕ) (a b : List ℕ) → put p o (a ++ b) ≡ put (put p o a) (o + length a) b
unfolding put
put-append p o [] b = rw add-zero
put-append p o (x ∷ a) b = put-append (set p o x) (suc o) a b ∙ rw (suc-add, add-suc)

-- the same, as two writers leave it: the second begins m bytes on
pub put_two : (p : List ℕ) (o : ℕ) (a b : List ℕ) (m : ℕ) → length a ≡ m → put (put p o a) (o + m) b ≡ put p o (a ++ b)
put_two p o a b m e = rw (← e, ← put-append)

-- at places apart, in either order
pub put-apart : (p : List ℕ) (o : ℕ) (a : List ℕ) (i : ℕ) (b : List ℕ) → o + length a ≤ i → put (put p o a) i b ≡ put (put p i b) o a
unfolding put
put-apart p o a i [] h = refl
put-apart p o a i (y ∷ b) h = rw (← put-set-above p o a i y h) (put-apart (set p i y) o a (suc i) b (omega arith))

-- at one place: the second stays
pub put_again : (p : List ℕ) (o : ℕ) (a b : List ℕ) → length a ≡ length b → put (put p o a) o b ≡ put p o b
unfolding put
put_again p o [] [] e = refl
put_again p o [] (y ∷ b) e = absurd (omega arith)
put_again p o (x ∷ a) [] e = absurd (omega arith)
put_again p o (x ∷ a) (y ∷ b) e =
    rw (← put-set_below (set p o x) (suc o) a o y (omega arith), set-set p o x y) (put_again (set p o y) (suc o) a b (omega arith))

-- what stands there, put there
pub put_back : (p : List ℕ) (o n : ℕ) → o + n ≤ length p → put p o (part n p o) ≡ p
unfolding put
put_back p o zero h = rw (part_none p o 0 refl)
put_back p o (suc n) h = rw (part-cons n p o (omega arith), put, set-get_or p o 0) (put_back p (suc o) n (omega arith))

-- ---- a run put into a part, when the part is back
-- the part from a on
pub put-part : (p : List ℕ) (a o : ℕ) (bs : List ℕ) → take a p ++ put (drop a p) o bs ≡ put p (a + o) bs
unfolding put
put-part p a o [] = take-append-drop a p
put-part p a o (b ∷ bs) =
    let e : suc (a + o) ≡ a + suc o = omega arith in
    rw (e, ← put-part (set p (a + o) b) a (suc o) bs, drop-set-add a p o b, take-set-le a p (a + o) b (omega arith))

-- the first k places of a list
put_first : (p : List ℕ) (k o : ℕ) (bs : List ℕ) → o + length bs ≤ k → put (take k p) o bs ++ drop k p ≡ put p o bs
unfolding put
put_first p k o [] h = take-append-drop k p
put_first p k o (b ∷ bs) h = rw (← take-set-lt k p o b (omega arith), ← drop-set-lt k p o b (omega arith)) (put_first (set p o b) k (suc o) bs (omega arith))

-- k places from a on: what a caller of a writer has after `&mut p[a..a + k]` is back
pub put_mid-put : (p : List ℕ) (a k o : ℕ) (bs : List ℕ) → o + length bs ≤ k → put_mid a k p (put (mid_of a k p) o bs) ≡ put p (a + o) bs
put_mid-put p a k o bs h = rw (put_first (drop a p) k o bs h) (put-part p a o bs)

-- all places from a on: the same after `&mut p[a..]`, for a run of any length
pub put_rest : (p : List ℕ) (a o : ℕ) (bs : List ℕ) → put_mid a (length p - a) p (put (mid_of a (length p - a) p) o bs) ≡ put p (a + o) bs
put_rest p a o bs =
    let whole : take (length p - a) (drop a p) ≡ drop a p = take_all (length p - a) (drop a p) (simp length-drop (omega arith)) in
    rw (whole, drop_of_length-le (drop a p) {i = length p - a} (simp length-drop (omega arith)), append-nil) (put-part p a o bs)

-- ---- bytes
pub set-bytes : (p : List ℕ) (i x : ℕ) → IsBytes p → x < 256 → IsBytes (set p i x)
set-bytes [] i x h l k = omega arith
set-bytes (y ∷ p) zero x h l zero = l
set-bytes (y ∷ p) zero x h l (suc k) = h (suc k)
set-bytes (y ∷ p) (suc i) x h l zero = h 0
set-bytes (y ∷ p) (suc i) x h l (suc k) = set-bytes p i x (λ j. h (suc j)) l k

pub put-bytes : (p : List ℕ) (o : ℕ) (bs : List ℕ) → IsBytes p → IsBytes bs → IsBytes (put p o bs)
unfolding put
put-bytes p o [] h l = h
put-bytes p o (b ∷ bs) h l = put-bytes (set p o b) (suc o) bs (set-bytes p o b h (l 0)) (λ k. l (suc k))

pub append-bytes : (a b : List ℕ) → IsBytes a → IsBytes b → IsBytes (a ++ b)
append-bytes [] b h k i = k i
append-bytes (x ∷ a) b h k zero = h 0
append-bytes (x ∷ a) b h k (suc i) = append-bytes a b (λ j. h (suc j)) k i

pub take-bytes : (n : ℕ) (l : List ℕ) → IsBytes l → IsBytes (take n l)
take-bytes zero l h i = omega arith
take-bytes (suc n) [] h i = omega arith
take-bytes (suc n) (x ∷ l) h zero = h 0
take-bytes (suc n) (x ∷ l) h (suc i) = take-bytes n l (λ j. h (suc j)) i

pub drop-bytes : (n : ℕ) (l : List ℕ) → IsBytes l → IsBytes (drop n l)
drop-bytes n l h i = rw (get_or-drop n l i 0) (h (n + i))

pub part_bytes : (n : ℕ) (p : List ℕ) (o : ℕ) → IsBytes p → IsBytes (part n p o)
unfolding part
part_bytes n p o h = take-bytes n (drop o p) (drop-bytes o p h)
