-- Places of two lists that hold alike: every number and every part that lies there reads alike. One law for each way of reading, and
-- one for each side of a write, give all that a write leaves as it was. Assumes nothing.
use Rattle.std.proofs.Common.{◌≡◌, refl, sym, ◌∙◌, List, ℕ, zero, suc, ◌+◌, ◌-◌, ◌≤◌, ◌<◌, min, add-zero, add-suc, suc-add, arith, length, get_or, ext_get_or}
use Rattle.octets.specs.Bytes.{le, be, part, put}
use Rattle.octets.proofs.Part.{length_part, part_at}
use Rattle.octets.proofs.Put.{length-put, put_below, put-above, put-inside}

-- n places of p from o on hold what n places of q from r on hold
abbrev pub Alike : ℕ → List ℕ → ℕ → List ℕ → ℕ → Type 0
Alike n p o q r = (i : ℕ) → i < n → get_or p (o + i) 0 ≡ get_or q (r + i) 0

-- ---- what lies alike reads alike
pub le-alike : (n : ℕ) (p : List ℕ) (o : ℕ) (q : List ℕ) (r : ℕ) → Alike n p o q r → le n p o ≡ le n q r
unfolding le
le-alike zero p o q r h = refl
le-alike (suc n) p o q r h =
    cc (
      rw (add-zero o, add-zero r) at (h 0 (omega arith)),
      le-alike n p (suc o) q (suc r) (λ i l. rw (suc-add o i, suc-add r i, ← add-suc o i, ← add-suc r i) (h (suc i) (omega arith))),
    )

pub be-alike : (n : ℕ) (p : List ℕ) (o : ℕ) (q : List ℕ) (r : ℕ) → Alike n p o q r → be n p o ≡ be n q r
unfolding be
be-alike zero p o q r h = refl
be-alike (suc n) p o q r h =
    cc (
      rw (add-zero o, add-zero r) at (h 0 (omega arith)),
      be-alike n p (suc o) q (suc r) (λ i l. rw (suc-add o i, suc-add r i, ← add-suc o i, ← add-suc r i) (h (suc i) (omega arith))),
    )

pub part-alike : (n : ℕ) (p : List ℕ) (o : ℕ) (q : List ℕ) (r : ℕ) → Alike n p o q r → min n (length p - o) ≡ min n (length q - r) → part n p o ≡ part n q r
part-alike n p o q r h e =
    ext_get_or 0 (part n p o) (part n q r) (length_part n p o ∙ e ∙ sym (length_part n q r))
    (λ i l. let k : i < n = omega (arith, length_part n p o) in part_at n p o i k ∙ h i k ∙ sym (part_at n q r i k))

-- ---- which places lie alike
-- some of them
pub alike-within : (n : ℕ) (p : List ℕ) (o : ℕ) (q : List ℕ) (r : ℕ) → Alike n p o q r → (m k : ℕ) → k + m ≤ n → Alike m p (o + k) q (r + k)
alike-within n p o q r h m k l i j =
    let e : o + k + i ≡ o + (k + i) = omega arith in
    let f : r + k + i ≡ r + (k + i) = omega arith in
    rw (e, f) (h (k + i) (omega arith))

-- below a run that was put, and above it
pub alike_below : (n : ℕ) (p : List ℕ) (o : ℕ) (bs : List ℕ) (i : ℕ) → i + n ≤ o → Alike n (put p o bs) i p i
alike_below n p o bs i h k l = put_below p o bs (i + k) (omega arith)

pub alike-above : (n : ℕ) (p : List ℕ) (o : ℕ) (bs : List ℕ) (i : ℕ) → o + length bs ≤ i → Alike n (put p o bs) i p i
alike-above n p o bs i h k l = put-above p o bs (i + k) (omega arith)

-- inside the run: what the run itself holds
pub alike-inside : (n : ℕ) (p : List ℕ) (o : ℕ) (bs : List ℕ) (j : ℕ) → o + length bs ≤ length p → j + n ≤ length bs → Alike n (put p o bs) (o + j) bs j
alike-inside n p o bs j h l k m = let e : o + j + k ≡ o + (j + k) = omega arith in rw e (put-inside p o bs (j + k) h (omega arith))

-- inside a part: what the whole holds there
pub alike-part : (n k : ℕ) (p : List ℕ) (o j : ℕ) → j + n ≤ k → Alike n (part k p o) j p (o + j)
alike-part n k p o j h i l = let e : o + j + i ≡ o + (j + i) = omega arith in rw e (part_at k p o (j + i) (omega arith))

-- ---- numbers and parts after a write, and of a part
module _ (n : ℕ) (p : List ℕ) (o : ℕ) (bs : List ℕ) (i : ℕ) where
  pub le-put-below : i + n ≤ o → le n (put p o bs) i ≡ le n p i
  le-put-below h = le-alike n (put p o bs) i p i (alike_below n p o bs i h)

  pub le-put-above : o + length bs ≤ i → le n (put p o bs) i ≡ le n p i
  le-put-above h = le-alike n (put p o bs) i p i (alike-above n p o bs i h)

  pub le-put-inside : o + length bs ≤ length p → i + n ≤ length bs → le n (put p o bs) (o + i) ≡ le n bs i
  le-put-inside h l = le-alike n (put p o bs) (o + i) bs i (alike-inside n p o bs i h l)

  pub be-put-below : i + n ≤ o → be n (put p o bs) i ≡ be n p i
  be-put-below h = be-alike n (put p o bs) i p i (alike_below n p o bs i h)

  pub be-put-above : o + length bs ≤ i → be n (put p o bs) i ≡ be n p i
  be-put-above h = be-alike n (put p o bs) i p i (alike-above n p o bs i h)

  pub be-put-inside : o + length bs ≤ length p → i + n ≤ length bs → be n (put p o bs) (o + i) ≡ be n bs i
  be-put-inside h l = be-alike n (put p o bs) (o + i) bs i (alike-inside n p o bs i h l)

  pub part-put-below : i + n ≤ o → part n (put p o bs) i ≡ part n p i
  part-put-below h = part-alike n (put p o bs) i p i (alike_below n p o bs i h) (rw (length-put p o bs))

  pub part-put-above : o + length bs ≤ i → part n (put p o bs) i ≡ part n p i
  part-put-above h = part-alike n (put p o bs) i p i (alike-above n p o bs i h) (rw (length-put p o bs))

  pub part-put-inside : o + length bs ≤ length p → i + n ≤ length bs → part n (put p o bs) (o + i) ≡ part n bs i
  part-put-inside h l = part-alike n (put p o bs) (o + i) bs i (alike-inside n p o bs i h l) (rw (length-put p o bs) (omega arith))

module _ (n k : ℕ) (p : List ℕ) (o j : ℕ) (h : j + n ≤ k) where
  pub le-part : le n (part k p o) j ≡ le n p (o + j)
  le-part = le-alike n (part k p o) j p (o + j) (alike-part n k p o j h)

  pub be-part : be n (part k p o) j ≡ be n p (o + j)
  be-part = be-alike n (part k p o) j p (o + j) (alike-part n k p o j h)

  pub part-part : part n (part k p o) j ≡ part n p (o + j)
  part-part = part-alike n (part k p o) j p (o + j) (alike-part n k p o j h) (rw (length_part k p o) (omega arith))

-- ---- the whole of a part that was put
pub part-put_same : (p : List ℕ) (o : ℕ) (bs : List ℕ) (n : ℕ) → length bs ≡ n → o + n ≤ length p → part n (put p o bs) o ≡ bs
part-put_same p o bs n e h =
    ext_get_or 0 (part n (put p o bs) o) bs (rw (length_part, length-put) (omega arith))
    (λ i l. let k : i < n = omega (arith, length_part n (put p o bs) o) in part_at n (put p o bs) o i k ∙ put-inside p o bs i (omega arith) (omega arith))
