-- Two pages whose bytes from a up to b are the same: every number, part, slot, suffix and row that lies there is the same. Assumes nothing.
use Rattle.std.proofs.Common.{◌≡◌, List, ℕ, ◌+◌, ◌*◌, ◌-◌, ◌≤◌, ◌<◌, arith, le-leb, leb, length, get_or, take}
use native.Mathlib.Decide.{dec_le, dec_lt}
use borrow.Author.Tests.{lt-leb}
use Rattle.octets.specs.Bytes.{le, part, big_bytes}
use Rattle.octets.proofs.Alike.{le-alike, part-alike}
use Rattle.keys.specs.Choice.{pick}
use Rattle.paper.specs.Page.{slot_at, prefix_of, suffix_of, body_bytes, value_at, row_of, numbers_of, hints_of}
use Rattle.paper.specs.Verdicts.{prefix_piece}
use Rattle.paper.specs.declared.page.Slot.{Slot}
use Rattle.paper.proofs.Lists.{tab-ext}

abbrev pub Same : List ℕ → List ℕ → ℕ → ℕ → Type 0
Same p q a b = (j : ℕ) → a ≤ j → j < b → get_or p j 0 ≡ get_or q j 0

-- ---- bytes of the body
pub body_bytes-le : (m n : ℕ) → body_bytes m n ≤ n
unfolding body_bytes
body_bytes-le m n = elim (dec_le n m) [ yes h ↦ rw (le-leb n m h) (omega arith) | no h ↦ rw (lt-leb n m (omega arith)) (omega arith) ]

pub body_bytes_short : (m n : ℕ) → n ≤ m → body_bytes m n ≡ 0
unfolding body_bytes
body_bytes_short m n h = rw (le-leb n m h)

pub body_bytes_long : (m n : ℕ) → m < n → body_bytes m n ≡ n
unfolding body_bytes
body_bytes_long m n h = rw (lt-leb n m h)

pub le-body_bytes : (m n : ℕ) → n ≤ m + body_bytes m n
unfolding body_bytes
le-body_bytes m n = elim (dec_le n m) [ yes h ↦ rw (le-leb n m h) (omega arith) | no h ↦ rw (lt-leb n m (omega arith)) (omega arith) ]

-- ---- ranges
-- two ranges side by side
pub same_join : (p q : List ℕ) (a b c : ℕ) → Same p q a b → Same p q b c → Same p q a c
same_join p q a b c h k j l m = elim (dec_lt j b) [ yes x ↦ h j l x | no x ↦ k j (omega arith) m ]

-- ---- what lies in the range
module _ (p q : List ℕ) (a b : ℕ) (h : Same p q a b) where
  pub same-le : (n o : ℕ) → a ≤ o → o + n ≤ b → le n p o ≡ le n q o
  same-le n o l m = le-alike n p o q o (λ i k. h (o + i) (omega arith) (omega arith))

  pub same-part : length p ≡ length q → (n o : ℕ) → a ≤ o → o + n ≤ b → part n p o ≡ part n q o
  same-part e n o l m = part-alike n p o q o (λ i k. h (o + i) (omega arith) (omega arith)) (rw e)

  pub same-slot : (o : ℕ) → a ≤ o → o + 8 ≤ b → slot_at p o ≡ slot_at q o
  same-slot o l m =
      let x = same-le 2 o (omega arith) (omega arith) in
      let y = same-le 2 (o + 2) (omega arith) (omega arith) in
      let z = same-le 4 (o + 4) (omega arith) (omega arith) in
      λ k. record { len = x k; offset = y k; head = z k }

  pub same-hints : a ≤ 64 → 96 ≤ b → hints_of p ≡ hints_of q
  unfolding hints_of
  same-hints l m = tab-ext 8 (λ j. le 4 p (64 + 4 * j)) (λ j. le 4 q (64 + 4 * j)) (λ j k. same-le 4 (64 + 4 * j) (omega arith) (omega arith))

  pub same-numbers : a ≤ 2 → 44 ≤ b → numbers_of p ≡ numbers_of q
  unfolding numbers_of
  same-numbers l m =
      let count = same-le 2 2 (omega arith) (omega arith) in
      let start = same-le 2 4 (omega arith) (omega arith) in
      let end = same-le 2 6 (omega arith) (omega arith) in
      let effective = same-le 4 40 (omega arith) (omega arith) in
      λ k. record { count = count k; start = start k; end = end k; effective = effective k }

-- a suffix whose bytes are the same, where it has any in the body
pub suffix_in : (q p : List ℕ) → length q ≡ length p → (s : Slot) → (4 < s.len → Same q p (96 + s.offset) (96 + s.offset + s.len)) → suffix_of q s ≡ suffix_of p s
unfolding suffix_of
suffix_in q p l s h = go (dec_le s.len 4)
  where
    go : Dec (s.len ≤ 4)
        → pick (leb s.len 4) (take s.len (big_bytes 4 s.head)) (part s.len q (96 + s.offset))
        ≡ pick (leb s.len 4) (take s.len (big_bytes 4 s.head)) (part s.len p (96 + s.offset))
    go (yes d) = rw (le-leb s.len 4 d)
    go (no d) =
        rw (lt-leb s.len 4 (omega arith))
        (same-part q p (96 + s.offset) (96 + s.offset + s.len) (h (omega arith)) l s.len (96 + s.offset) (omega arith) (omega arith))

-- a prefix that is inline, or whose piece is the same
pub prefix_in : (q p : List ℕ) → length q ≡ length p → Same q p 44 64 → (n : ℕ) → n ≤ 16256
    → (16 < n → Same q p (96 + (prefix_piece n).lo) (96 + (prefix_piece n).hi)) → prefix_of q n ≡ prefix_of p n
unfolding prefix_of prefix_piece
prefix_in q p l c n m h = go (dec_le n 16)
  where
    go : Dec (n ≤ 16) → pick (leb n 16) (part n q 48) (part n q (16352 - n)) ≡ pick (leb n 16) (part n p 48) (part n p (16352 - n))
    go (yes d) = rw (le-leb n 16 d) (same-part q p 44 64 c l n 48 (omega arith) (omega arith))
    go (no d) =
        let k : body_bytes 16 n ≡ n = body_bytes_long 16 n (omega arith) in
        rw (lt-leb n 16 (omega arith))
        (same-part q p (96 + (16256 - body_bytes 16 n)) (96 + 16256) (h (omega arith)) l n (16352 - n) (omega arith) (omega arith))

-- ---- what lies in the body from e on
-- n bytes beside the suffix of s lie in the body from e on
abbrev pub Held : ℕ → ℕ → Slot → Type 0
Held e n s = (e ≤ s.offset) × (s.offset + (body_bytes 4 s.len + n) ≤ 16256)

module _ (p q : List ℕ) (e : ℕ) (h : Same p q (96 + e) 16384) (l : length p ≡ length q) (s : Slot) where
  pub same-suffix : (4 < s.len → Held e 0 s) → suffix_of p s ≡ suffix_of q s
  same-suffix k = suffix_in p q l s (λ d j a b. h j (omega (arith, k d)) (omega (arith, k d, body_bytes_long 4 s.len d)))

  pub same_row : (w : ℕ) → Held e w s → row_of w p s ≡ row_of w q s
  unfolding row_of
  same_row w k =
      rw (same-suffix (λ d. (k.0, omega arith)), same-le p q (96 + e) 16384 h w (value_at s) (omega arith) (omega arith))
