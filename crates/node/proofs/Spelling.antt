-- Prefix and suffix as code finds them on the page, and a head's four bytes. Assumes nothing.
use Rattle.std.proofs.Common.{◌≡◌, refl, sym, ◌∙◌, List, ◌++◌, ℕ, ◌+◌, ◌-◌, ◌^◌, ◌/◌, ◌%◌, ◌≤◌, ◌<◌, arith, zero-add, length-take-le, le-leb, length, take, drop}
use native.Mathlib.Decide.{dec_le}
use borrow.Author.Tests.{lt-leb}
use Rattle.std.specs.Int.{w32, to_be_bytes}
use Rattle.octets.specs.Bytes.{part, big_bytes, put}
use Rattle.octets.proofs.Put.{put-append}
use Rattle.octets.proofs.Part.{length-part-le}
use Rattle.octets.proofs.Big.{length-big_bytes}
use Rattle.paper.specs.Page.{prefix_of, suffix_of, body_bytes}
use Rattle.paper.specs.declared.page.Slot.{Slot}
use Rattle.paper.proofs.Same.{body_bytes_long}

-- ---- the prefix
pub prefix-inline : (p : List ℕ) (n : ℕ) → n ≤ 16 → take (48 + n - 48) (drop 48 p) ≡ prefix_of p n
unfolding prefix_of part
prefix-inline p n h = let e : 48 + n - 48 ≡ n = omega arith in rw (le-leb n 16 h, e)

pub prefix-last : (p : List ℕ) (n : ℕ) → 16 < n → n ≤ 16352 → take (16352 - (16352 - n)) (drop (16352 - n) p) ≡ prefix_of p n
unfolding prefix_of part
prefix-last p n h k = let e : 16352 - (16352 - n) ≡ n = omega arith in rw (lt-leb n 16 h, e)

pub length-prefix_of : (p : List ℕ) (n : ℕ) → 16384 ≤ length p → n ≤ 16256 → length (prefix_of p n) ≡ n
unfolding prefix_of
length-prefix_of p n h k = elim (dec_le n 16) [ yes l ↦ rw (le-leb n 16 l) (length-part-le n p 48 (omega arith)) | no l ↦ rw (lt-leb n 16 (omega arith)) (length-part-le n p (16352 - n) (omega arith)) ]

-- it goes where it fits
pub prefix_fits : (p l : List ℕ) (n k m : ℕ) → 16384 ≤ length p → n ≤ 16256 → l ≡ prefix_of p n → n + k ≤ m → 0 + length l ≤ m
prefix_fits p l n k m h g e f = let q : length l ≡ n = rw e (length-prefix_of p n h g) in omega arith

-- ---- a head
pub big_four : (v : ℕ) → v < 256 ^ 4 → big_bytes 4 v ≡ to_be_bytes w32 v
unfolding big_bytes
big_four v h =
    let a : v / 16777216 % 256 ≡ v / 16777216 = omega arith in
    let b : v / 65536 % 256 ≡ v % 16777216 / 65536 = omega arith in
    let c : v / 256 % 256 ≡ v % 16777216 % 65536 / 256 = omega arith in
    let d : v % 256 ≡ v % 16777216 % 65536 % 256 / 1 = omega arith in
    rw (a, b, c, d)

-- some of its bytes
pub length_four : (n v : ℕ) (l : List ℕ) → l ≡ big_bytes 4 v → n ≤ 4 → length (take n l) ≡ n
length_four n v l e h = length-take-le n l (rw (e, length-big_bytes 4 v) h)

-- ---- the suffix
module _ (p : List ℕ) (s : Slot) where
  pub suffix-short : s.len ≤ 4 → suffix_of p s ≡ take s.len (big_bytes 4 s.head)
  unfolding suffix_of
  suffix-short h = rw (le-leb s.len 4 h)

  pub suffix-long : 4 < s.len → take (96 + s.offset + s.len - (96 + s.offset)) (drop (96 + s.offset) p) ≡ suffix_of p s
  unfolding suffix_of part
  suffix-long h = let e : 96 + s.offset + s.len - (96 + s.offset) ≡ s.len = omega arith in rw (lt-leb s.len 4 h, e)

-- the room that a suffix is copied from
pub suffix-room : (n at m : ℕ) → 4 < n → at + body_bytes 4 n ≤ m → at + n ≤ m
suffix-room n at m h k = rw (← body_bytes_long 4 n h) k

pub length-suffix_of : (p : List ℕ) (s : Slot) → 96 + s.offset + body_bytes 4 s.len ≤ length p → length (suffix_of p s) ≡ s.len
unfolding suffix_of
length-suffix_of p s h = go (dec_le s.len 4)
  where
    go : Dec (s.len ≤ 4) → length (suffix_of p s) ≡ s.len
    go (yes l) = rw (suffix-short p s l) (length_four s.len s.head (big_bytes 4 s.head) refl l)
    go (no l) = rw (lt-leb s.len 4 (omega arith)) (length-part-le s.len p (96 + s.offset) (suffix-room s.len (96 + s.offset) (length p) (omega arith) h))

pub ruleset suffix_length = (length-suffix_of)

-- ---- both
pub put_both : (out pre suf : List ℕ) (n : ℕ) → length pre ≡ n → put (put out 0 pre) n suf ≡ put out 0 (pre ++ suf)
put_both out pre suf n e = sym (put-append out 0 pre suf ∙ rw (zero-add, e))

pub ruleset prefixes = (prefix-inline, prefix-last)

pub ruleset both = (length-prefix_of, put_both)
