-- What one turn of each loop of this crate does to `put` and `le`, and what is left where the loop ends. Assumes nothing.
use Rattle.std.proofs.Common.{◌≡◌, List, ℕ, suc, ◌+◌, ◌*◌, ◌-◌, ◌/◌, ◌%◌, ◌^◌, ◌≤◌, ◌<◌, add-zero, lt_of_lt_of_le, add-one, arith, w8, Fits, length, get_or, set, drop, drop_of_length-le, drop-cons}
use native.Mathlib.Nat.{pow-le-pow_right}
use borrow.Rule.Slice.PartMut.{put_mid, mid_of}
use Rattle.octets.specs.Bytes.{IsBytes, le, bytes, put}
use Rattle.octets.proofs.Put.{put_mid-put}
use Rattle.octets.proofs.Little.{le-lt, length-bytes}

-- ---- a run, copied from its front: the rest of s from place j on
module _ (p : List ℕ) (o : ℕ) (s : List ℕ) (j : ℕ) where
  pub copy-turn : j < length s → put p (o + j) (drop j s) ≡ put (set p (o + j) (get_or s j 0)) (o + (j + 1)) (drop (j + 1) s)
  unfolding put
  copy-turn h = let e : o + (j + 1) ≡ suc (o + j) = omega arith in rw (e, add-one j, drop-cons s j 0)

  pub copy_done : length s ≤ j → put p (o + j) (drop j s) ≡ p
  unfolding put
  copy_done h = rw (drop_of_length-le s h)

pub ruleset copying = (copy-turn, copy_done)

-- ---- a number of any width, read from its highest byte
-- a number of at most seven bytes leaves room for one more
pub le-lt_7 : (n : ℕ) (p : List ℕ) (o : ℕ) → IsBytes p → n ≤ 7 → le n p o < 256 ^ 7
le-lt_7 n p o h l = lt_of_lt_of_le (le-lt n p o h) (pow-le-pow_right (omega arith) l)

-- the same, of a slice as code knows its bytes
pub le_room : (n : ℕ) (p : List ℕ) (o : ℕ) → ((i : ℕ) → Fits w8 (get_or p i 0)) → n ≤ 7 → le n p o < 256 ^ 7
le_room n p o h l = le-lt_7 n p o (λ i. (h i).fits) l

-- the byte below is read
pub read_turn : (w i : ℕ) (p : List ℕ) (o : ℕ) → 0 < i → i ≤ w → le (w - (i - 1)) p (o + (i - 1)) ≡ get_or p (o + (i - 1)) 0 + 256 * le (w - i) p (o + i)
unfolding le
read_turn w i p o h l =
    let e : w - (i - 1) ≡ suc (w - i) = omega arith in
    let g : o + i ≡ suc (o + (i - 1)) = omega arith in
    rw (e, g)

pub ruleset reading = (le_room, read_turn)

-- ---- a number of any width, written from its lowest byte
-- the lowest byte left is written
pub write_turn : (p : List ℕ) (i w j r : ℕ) → j < w → put p i (bytes (w - j) r) ≡ put (set p i (r % 256)) (i + 1) (bytes (w - (j + 1)) (r / 256))
unfolding put bytes
write_turn p i w j r h = let e : w - j ≡ suc (w - (j + 1)) = omega arith in rw (e, add-one i)

pub write_done : (p : List ℕ) (i w j r : ℕ) → w ≤ j → put p i (bytes (w - j) r) ≡ p
unfolding put bytes
write_done p i w j r h = let e : w - j ≡ 0 = omega arith in rw e

-- a run that was put at the front of a lent part, when the part is back
pub write_back : (p : List ℕ) (a k : ℕ) (bs : List ℕ) → length bs ≤ k → put_mid a k p (put (mid_of a k p) 0 bs) ≡ put p a bs
write_back p a k bs h = rw (put_mid-put p a k 0 bs (omega arith), add-zero)

pub ruleset writing = (write_turn, write_done, write_back, length-bytes)
