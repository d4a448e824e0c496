-- Slots written and moved: a slot reads back where it was put, and a slot put in moves the later ones up one. Assumes nothing.
use Rattle.std.proofs.Common.{◌≡◌, ◌∙◌, ◌⊎◌, inl, ⊎_elim, List, ◌++◌, ℕ, suc, ◌+◌, ◌-◌, ◌^◌, ◌≤◌, ◌<◌, add-zero, arith, length, get_or, length-append}
use Rattle.octets.specs.Bytes.{IsBytes, le, part, bytes, put}
use Rattle.octets.proofs.Part.{length-part-le}
use Rattle.octets.proofs.Put.{length-put, put_below, put-above, put-append, put-bytes, append-bytes, part_bytes}
use Rattle.octets.proofs.Alike.{Alike, le-alike, alike-within, alike-above, alike-inside, alike-part, le-put-below}
use Rattle.octets.proofs.Little.{length-bytes, bytes-bytes, le-put_same}
use Rattle.paper.specs.Page.{slot_at, place, slot_of}
use Rattle.paper.specs.Edits.{slot_bytes, slot_in}
use Rattle.paper.specs.declared.page.Slot.{Slot}

pub length-slot_bytes : (s : Slot) → length (slot_bytes s) ≡ 8
unfolding slot_bytes
length-slot_bytes s = simp (length-append, length-bytes)

pub slot_bytes-bytes : (s : Slot) → IsBytes (slot_bytes s)
unfolding slot_bytes
slot_bytes-bytes s =
    append-bytes (bytes 2 s.len ++ bytes 2 s.offset) (bytes 4 s.head)
    (append-bytes (bytes 2 s.len) (bytes 2 s.offset) (bytes-bytes 2 s.len) (bytes-bytes 2 s.offset))
    (bytes-bytes 4 s.head)

-- eight bytes that are alike are one slot
pub slot-alike : (p : List ℕ) (o : ℕ) (q : List ℕ) (r : ℕ) → Alike 8 p o q r → slot_at p o ≡ slot_at q r
slot-alike p o q r h =
    let at : (n k : ℕ) → k + n ≤ 8 → le n p (o + k) ≡ le n q (r + k) = λ n k l. le-alike n p (o + k) q (r + k) (alike-within 8 p o q r h n k l) in
    let len : le 2 p o ≡ le 2 q r = rw (add-zero o, add-zero r) at (at 2 0 (omega arith)) in
    let offset = at 2 2 (omega arith) in
    let head = at 4 4 (omega arith) in
    λ k. record { len = len k; offset = offset k; head = head k }

-- a slot whose numbers its fields hold reads back
pub record SlotFits (s : Slot) : Type 0 where
  pub len : s.len < 65536
  pub offset : s.offset < 65536
  pub head : s.head < 256 ^ 4

pub slot_back : (p : List ℕ) (o : ℕ) (s : Slot) → o + 8 ≤ length p → SlotFits s → slot_at (put p o (slot_bytes s)) o ≡ s
unfolding slot_bytes
slot_back p o s h F =
    let x : List ℕ = put p o (bytes 2 s.len) in
    let y : List ℕ = put x (o + 2) (bytes 2 s.offset) in
    let z : List ℕ = put y (o + 4) (bytes 4 s.head) in
    let e1 : le 2 z o ≡ s.len =
    le-put-below 2 y (o + 4) (bytes 4 s.head) o (omega arith)
    ∙ le-put-below 2 x (o + 2) (bytes 2 s.offset) o (omega arith)
    ∙ le-put_same 2 p o s.len (omega arith) F.len in
    let e2 : le 2 z (o + 2) ≡ s.offset =
    le-put-below 2 y (o + 4) (bytes 4 s.head) (o + 2) (omega arith) ∙ le-put_same 2 x (o + 2) s.offset (rw length-put (omega arith)) F.offset in
    let e3 : le 4 z (o + 4) ≡ s.head = le-put_same 4 y (o + 4) s.head (simp length-put (omega arith)) F.head in
    simp (put-append, length-append, length-bytes) (λ i. record { len = e1 i; offset = e2 i; head = e3 i })

-- ---- a slot put in as slot i of n
module _ (p : List ℕ) (n i : ℕ) (s : Slot) (h : i ≤ n) (room : place n + 8 ≤ length p) where
  abbrev moved : List ℕ
  moved = part (place n - place i) p (place i)

  length_moved : length moved ≡ place n - place i
  length_moved = length-part-le (place n - place i) p (place i) (omega arith)

  pub length-slotIn : length (slot_in p n i s) ≡ length p
  unfolding slot_in
  length-slotIn = length-put (put p (place i + 8) moved) (place i) (slot_bytes s) ∙ length-put p (place i + 8) moved

  pub slotIn-bytes : IsBytes p → IsBytes (slot_in p n i s)
  unfolding slot_in
  slotIn-bytes b =
      put-bytes (put p (place i + 8) moved) (place i) (slot_bytes s) (put-bytes p (place i + 8) moved b (part_bytes (place n - place i) p (place i) b)) (slot_bytes-bytes s)

  -- bytes outside the slots from i on stay
  pub slotIn-out : (j : ℕ) → (j < place i) ⊎ (place n + 8 ≤ j) → get_or (slot_in p n i s) j 0 ≡ get_or p j 0
  unfolding slot_in
  slotIn-out j o =
      let len = length_moved in
      ⊎_elim (λ l. put_below (put p (place i + 8) moved) (place i) (slot_bytes s) j l ∙ put_below p (place i + 8) moved j (omega arith))
      (λ (l : place n + 8 ≤ j). put-above (put p (place i + 8) moved) (place i) (slot_bytes s) j (rw length-slot_bytes (omega arith)) ∙ put-above p (place i + 8) moved j (omega arith))
      o

  pub slotIn-before : (j : ℕ) → j < i → slot_of (slot_in p n i s) j ≡ slot_of p j
  unfolding slot_of
  slotIn-before j l = slot-alike (slot_in p n i s) (place j) p (place j) (λ k m. slotIn-out (place j + k) (inl (omega arith)))

  pub slotIn-here : SlotFits s → slot_of (slot_in p n i s) i ≡ s
  unfolding slot_of slot_in
  slotIn-here F = slot_back (put p (place i + 8) moved) (place i) s (rw length-put (omega arith)) F

  pub slotIn-after : (j : ℕ) → i ≤ j → j < n → slot_of (slot_in p n i s) (suc j) ≡ slot_of p j
  unfolding slot_of slot_in
  slotIn-after j l m =
      slot-alike (put (put p (place i + 8) moved) (place i) (slot_bytes s)) (place (suc j)) p (place j)
      (λ k a.
      let len = length_moved in
      let d : place (suc j) ≡ place i + 8 + (place j - place i) = omega arith in
      let g : place i + (place j - place i) ≡ place j = omega arith in
      alike-above 8 (put p (place i + 8) moved) (place i) (slot_bytes s) (place (suc j)) (rw length-slot_bytes (omega arith)) k a
      ∙ rw d (alike-inside 8 p (place i + 8) moved (place j - place i) (omega arith) (omega arith) k a)
      ∙ (rw g at (alike-part 8 (place n - place i) p (place i) (place j - place i) (omega arith) k a)))
