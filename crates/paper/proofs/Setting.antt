-- A value set on the page is the value set on its view: its bytes lie within the payload of its slot and above every slot, so header, slots,
-- frame, other rows and the slot's own suffix stay. Assumes nothing.
use Rattle.std.proofs.Common.{◌≡◌, sym, ap, ◌∙◌, ⊎_elim, List, ℕ, ◌+◌, ◌^◌, ◌≤◌, ◌<◌, arith, length, get_or, take}
use Rattle.octets.specs.Bytes.{IsBytes, le, part, bytes, put}
use Rattle.octets.proofs.Put.{length-put, put_below, put-above, put-bytes}
use Rattle.octets.proofs.Little.{length-bytes, bytes-bytes, le-put_same}
use Rattle.paper.specs.Lists.{swap}
use Rattle.paper.specs.Page.{place, slot_of, suffix_of, body_bytes, value_at, row_of, rows_of, frame_of, Numbers, numbers_of, hints_of, view_of}
use Rattle.paper.specs.Space.{payload_bytes}
use Rattle.paper.specs.Verdicts.{Piece}
use Rattle.paper.specs.Edits.{value_set}
use Rattle.paper.specs.Views.{no_row, set_row, set_view}
use Rattle.paper.specs.declared.page.Slot.{Slot}
use Rattle.paper.proofs.Lists.{getD-tab}
use Rattle.paper.proofs.Swaps.{tab-swap}
use Rattle.paper.proofs.Same.{Same, same-part, same-slot, same-hints, same-numbers, body_bytes_long, suffix_in}
use Rattle.paper.proofs.Fit.{Rules, Fit, length-rows, placed}
use Rattle.paper.proofs.Untouched.{Save, Clear, clear_in, row_piece, others, frame-kept}

-- ---- a header that is the same
pub numbers_in_lem : (q p : List ℕ) → Same q p 0 96 → numbers_of q ≡ numbers_of p
numbers_in_lem q p h = same-numbers q p 0 96 h (omega arith) (omega arith)

pub header_in : (q p : List ℕ) → length q ≡ length p → Same q p 0 96 → take 96 q ≡ take 96 p
unfolding part
header_in q p l h = same-part q p 0 96 h l 96 0 (omega arith) (omega arith)

-- ---- the row of a slot whose value is set
pub value_row : (w : ℕ) (p : List ℕ) (s : Slot) (v : ℕ) → length p ≡ 16384 → s.offset + payload_bytes w s.len ≤ 16256 → v < 256 ^ w
    → row_of w (put p (value_at s) (bytes w v)) s ≡ set_row (row_of w p s) v
unfolding row_of set_row
value_row w p s v size room hv =
    let q : List ℕ = put p (value_at s) (bytes w v) in
    let suffix : suffix_of q s ≡ suffix_of p s =
    suffix_in q p (length-put p (value_at s) (bytes w v)) s (λ d j a b. put_below p (value_at s) (bytes w v) j (omega (arith, body_bytes_long 4 s.len d))) in
    let value : le w q (value_at s) ≡ v = le-put_same w p (value_at s) v (omega arith) hv in
    λ k. record { slot = s; suffix = suffix k; value = value k }

module _ (w : ℕ) (p : List ℕ) (i v : ℕ) where
  pub length-set : length p ≡ 16384 → length (value_set w p i v) ≡ 16384
  unfolding value_set
  length-set size = length-put p (value_at (slot_of p i)) (bytes w v) ∙ size

  pub set-bytes : IsBytes p → IsBytes (value_set w p i v)
  unfolding value_set
  set-bytes b = put-bytes p (value_at (slot_of p i)) (bytes w v) b (bytes-bytes w v)

module _ (w : ℕ) (p : List ℕ) (i v : ℕ) (size : length p ≡ 16384) (F : Fit w (view_of w p)) (h : i < (numbers_of p).count) where
  abbrev n : ℕ
  n = (numbers_of p).count

  -- the bytes of the value
  abbrev x : Piece
  x = record { lo = (slot_of p i).offset + body_bytes 4 (slot_of p i).len; hi = (slot_of p i).offset + payload_bytes w (slot_of p i).len }

  held : ((numbers_of p).end ≤ (slot_of p i).offset) × ((slot_of p i).offset + payload_bytes w (slot_of p i).len ≤ 16256)
  held = (placed w p F).rows i h

  rules : Rules (frame_of p) (numbers_of p)
  unfolding view_of
  rules = F.r1

  equal : length (value_set w p i v) ≡ length p
  equal = length-set w p i v size ∙ sym size

  -- what lies below the end stays
  low : (j : ℕ) → j < 96 + (numbers_of p).end → get_or (value_set w p i v) j 0 ≡ get_or p j 0
  unfolding value_set
  low j m = put_below p (value_at (slot_of p i)) (bytes w v) j (omega (arith, held.0))

  header-same : Same (value_set w p i v) p 0 96
  header-same j a b = low j (omega arith)

  slots_same : (j : ℕ) → j < n → slot_of (value_set w p i v) j ≡ slot_of p j
  unfolding slot_of
  slots_same j m =
      same-slot (value_set w p i v) p 0 (96 + (numbers_of p).end) (λ k a b. low k b) (place j) (omega arith) (omega (arith, rules.start, rules.order))

  save : Save (value_set w p i v) p (96 + (numbers_of p).end) x
  unfolding value_set
  save j a o =
      ⊎_elim (λ (l : j < 96 + x.lo). put_below p (value_at (slot_of p i)) (bytes w v) j (omega arith))
      (λ (l : 96 + x.hi ≤ j). put-above p (value_at (slot_of p i)) (bytes w v) j (rw length-bytes (omega arith)))
      o

  clear : Clear w (view_of w p) i x
  clear = clear_in w (view_of w p) F i (rw (length-rows w p) h) x (rw (row_piece w p i h) (omega arith)) (rw (row_piece w p i h) (omega arith))

  pub set-frame : frame_of (value_set w p i v) ≡ frame_of p
  set-frame =
      frame-kept w (value_set w p i v) p equal F i h x clear save (λ j a b. header-same j (omega arith) (omega arith)) (λ j a b. header-same j (omega arith) (omega arith))
      (λ j a b. header-same j (omega arith) (omega arith))

  pub set-numbers : numbers_of (value_set w p i v) ≡ numbers_of p
  set-numbers = numbers_in_lem (value_set w p i v) p header-same

  -- no header byte changes
  pub set-header : take 96 (value_set w p i v) ≡ take 96 p
  set-header = header_in (value_set w p i v) p equal header-same

  module _ (hv : v < 256 ^ w) where
    here : row_of w (value_set w p i v) (slot_of p i) ≡ set_row (row_of w p (slot_of p i)) v
    unfolding value_set
    here = value_row w p (slot_of p i) v size held.1 hv

    set-rows : rows_of w (value_set w p i v) n ≡ swap i (set_row (get_or (rows_of w p n) i no_row) v) (rows_of w p n)
    set-rows =
        rw (getD-tab n (λ j. row_of w p (slot_of p j)) i no_row h)
        (tab-swap n i (λ j. row_of w p (slot_of p j)) (λ j. row_of w (value_set w p i v) (slot_of (value_set w p i v) j)) (set_row (row_of w p (slot_of p i)) v) h
        (λ j m k. rw (slots_same j m) (others w (value_set w p i v) p equal F i h x clear save j m k))
        (rw (slots_same i h) here))

    -- the page then reads as it did, but for the value
    pub set-square : view_of w (value_set w p i v) ≡ set_view (view_of w p) i v
    unfolding view_of set_view
    set-square =
        let hints : hints_of (value_set w p i v) ≡ hints_of p = same-hints (value_set w p i v) p 0 96 header-same (omega arith) (omega arith) in
        let count : (numbers_of (value_set w p i v)).count ≡ n = ap (λ (m : Numbers). m.count) set-numbers in
        let rows : rows_of w (value_set w p i v) (numbers_of (value_set w p i v)).count ≡ swap i (set_row (get_or (rows_of w p n) i no_row) v) (rows_of w p n) = rw count set-rows in
        λ k. record { frame = set-frame k; numbers = set-numbers k; hints = hints k; rows = rows k }
