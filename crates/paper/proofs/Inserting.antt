-- An insert on the page is the insert on its view: the payload lands below the end, the slot before the later ones, numbers and hints
-- follow. The same without the hints is what a run copy appends. Assumes nothing.
use Rattle.std.proofs.Common.{◌≡◌, refl, sym, ap, ◌∙◌, ◌⊎◌, inl, inr, List, ℕ, suc, ◌+◌, ◌*◌, ◌^◌, ◌≤◌, ◌<◌, add-one, arith, length, get_or}
use Rattle.octets.specs.Bytes.{IsBytes, put}
use Rattle.octets.proofs.Put.{length-put, put_below, put-above, put-bytes}
use Rattle.paper.specs.Lists.{ins}
use Rattle.paper.specs.Page.{place, slot_of, row_of, rows_of, frame_of, numbers_of, hints_of, View, view_of}
use Rattle.paper.specs.Space.{payload_bytes, need}
use Rattle.paper.specs.Edits.{slot_for, payload_of, new_end, loaded, slotted, more, numbered, inserted, number_fields}
use Rattle.paper.specs.Views.{refreshed, row_for, insert_view}
use Rattle.paper.proofs.Lists.{tab-ins}
use Rattle.paper.proofs.Same.{Same, same-hints}
use Rattle.paper.proofs.Fields.{length-put_all, put_all-bytes}
use Rattle.paper.proofs.Slots.{slot-alike, length-slotIn, slotIn-bytes, slotIn-out, slotIn-before, slotIn-here, slotIn-after}
use Rattle.paper.proofs.Payloads.{length-payload, payload-bytes, slot_for_fits, row_back}
use Rattle.paper.proofs.Stages.{Placed, frame_same, entry-same, Fits, numbers-view, refresh-view, length-refresh, refresh-bytes}

-- what an insert asks of the page's numbers
pub record Room (w : ℕ) (p : List ℕ) (i : ℕ) (s : List ℕ) (v : ℕ) : Type 0 where
  pub size : length p ≡ 16384
  pub bytes : IsBytes p
  pub start : (numbers_of p).start ≡ 8 * (numbers_of p).count
  pub slot : i ≤ (numbers_of p).count
  pub top : (numbers_of p).end ≤ 16256
  pub room : 8 * (numbers_of p).count + 8 + payload_bytes w (length s) ≤ (numbers_of p).end
  pub effective : (numbers_of p).effective ≤ 16352
  pub suffix : IsBytes s
  pub value : v < 256 ^ w

module _ (w : ℕ) (p : List ℕ) (i : ℕ) (s : List ℕ) (v : ℕ) (R : Room w p i s v) where
  abbrev n : ℕ
  n = (numbers_of p).count

  abbrev e : ℕ
  e = (numbers_of p).end

  abbrev at : ℕ
  at = new_end w p s

  -- ---- the payload
  length-loaded : length (loaded w p s v) ≡ 16384
  unfolding loaded
  length-loaded = length-put p (96 + at) (payload_of w s v) ∙ R.size

  loaded_bytes : IsBytes (loaded w p s v)
  unfolding loaded
  loaded_bytes = put-bytes p (96 + at) (payload_of w s v) R.bytes (payload-bytes w s v R.suffix)

  loaded-low : (j : ℕ) → j < 96 + at → get_or (loaded w p s v) j 0 ≡ get_or p j 0
  unfolding loaded
  loaded-low j h = put_below p (96 + at) (payload_of w s v) j h

  loaded-high : (j : ℕ) → 96 + e ≤ j → get_or (loaded w p s v) j 0 ≡ get_or p j 0
  unfolding loaded
  loaded-high j h = put-above p (96 + at) (payload_of w s v) j (rw (length-payload w s v) (omega (arith, R.room)))

  -- ---- the slot
  inside : place n + 8 ≤ length (loaded w p s v)
  inside = rw length-loaded (omega (arith, R.room, R.top))

  pub length-slotted : length (slotted w p i s v) ≡ 16384
  unfolding slotted
  length-slotted = length-slotIn (loaded w p s v) n i (slot_for s at) R.slot inside ∙ length-loaded

  slotted-bytes : IsBytes (slotted w p i s v)
  unfolding slotted
  slotted-bytes = slotIn-bytes (loaded w p s v) n i (slot_for s at) R.slot inside loaded_bytes

  slotted-out : (j : ℕ) → (j < place i) ⊎ (place n + 8 ≤ j) → get_or (slotted w p i s v) j 0 ≡ get_or (loaded w p s v) j 0
  unfolding slotted
  slotted-out j o = slotIn-out (loaded w p s v) n i (slot_for s at) R.slot inside j o

  -- ---- what stays
  header-same : (a b : ℕ) → b ≤ 96 → Same (slotted w p i s v) p a b
  header-same a b h j l m = slotted-out j (inl (omega arith)) ∙ loaded-low j (omega arith)

  body_same : Same (slotted w p i s v) p (96 + e) 16384
  body_same j l m = slotted-out j (inr (omega (arith, R.room))) ∙ loaded-high j l

  slots_same : (j : ℕ) → j < n → slot_of (loaded w p s v) j ≡ slot_of p j
  unfolding slot_of
  slots_same j h = slot-alike (loaded w p s v) (place j) p (place j) (λ k l. loaded-low (place j + k) (omega (arith, R.room)))

  payload_same : Same (slotted w p i s v) (put p (96 + at) (payload_of w s v)) (96 + at) (96 + at + payload_bytes w (length s))
  payload_same j l m = slotted-out j (inr (omega (arith, R.room))) ∙ (unfold loaded in refl)

  -- ---- the rows
  slot-before : (j : ℕ) → j < i → slot_of (slotted w p i s v) j ≡ slot_of p j
  unfolding slotted
  slot-before j h = slotIn-before (loaded w p s v) n i (slot_for s at) R.slot inside j h ∙ slots_same j (omega (arith, R.slot))

  slot-new : slot_of (slotted w p i s v) i ≡ slot_for s at
  unfolding slotted
  slot-new = slotIn-here (loaded w p s v) n i (slot_for s at) R.slot inside (slot_for_fits s at R.suffix (omega (arith, R.room, R.top)))

  slot-after : (j : ℕ) → i ≤ j → j < n → slot_of (slotted w p i s v) (suc j) ≡ slot_of p j
  unfolding slotted
  slot-after j g h = slotIn-after (loaded w p s v) n i (slot_for s at) R.slot inside j g h ∙ slots_same j h

  module _ (P : Placed w p (numbers_of p).end (numbers_of p).count) where
    equal : length (slotted w p i s v) ≡ length p
    equal = length-slotted ∙ sym R.size

    pub frame-slotted : frame_of (slotted w p i s v) ≡ frame_of p
    frame-slotted =
        frame_same w (slotted w p i s v) p e n equal P body_same (header-same 0 2 (omega arith)) (header-same 8 40 (omega arith)) (header-same 44 64 (omega arith))

    pub hints-slotted : hints_of (slotted w p i s v) ≡ hints_of p
    hints-slotted = same-hints (slotted w p i s v) p 64 96 (header-same 64 96 (omega arith)) (omega arith) (omega arith)

    pub rows-slotted : rows_of w (slotted w p i s v) (n + 1) ≡ ins i (row_for s v at) (rows_of w p n)
    rows-slotted =
        rw (add-one n)
        (tab-ins n i (λ j. row_of w p (slot_of p j)) (λ j. row_of w (slotted w p i s v) (slot_of (slotted w p i s v) j)) (row_for s v at) R.slot
        (λ j h. rw (slot-before j h) (entry-same w (slotted w p i s v) p e n equal P body_same j (omega (arith, R.slot))))
        (rw slot-new (row_back w p at s v R.size (omega (arith, R.room, R.top)) R.suffix R.value (slotted w p i s v) equal payload_same))
        (λ j g h. rw (slot-after j g h) (entry-same w (slotted w p i s v) p e n equal P body_same j h)))

    -- ---- the numbers
    fits : Fits (more w (numbers_of p) (length s))
    unfolding more need
    fits =
        let r = R.room in
        let t = R.top in
        record { count = omega arith; start = omega (arith, R.start); end = omega arith; effective = omega (arith, R.effective) }

    pub numbered-view : view_of w (numbered w p i s v)
        ≡ record { frame = frame_of p; numbers = more w (numbers_of p) (length s); hints = hints_of p; rows = ins i (row_for s v at) (rows_of w p n) }
    unfolding numbered more
    numbered-view =
        numbers-view w (slotted w p i s v) (more w (numbers_of p) (length s)) length-slotted (rw frame-slotted P.prefix_most) fits
        ∙ rw (frame-slotted, hints-slotted, rows-slotted)

    pub length-numbered : length (numbered w p i s v) ≡ 16384
    unfolding numbered
    length-numbered = length-put_all (slotted w p i s v) (number_fields (more w (numbers_of p) (length s))) ∙ length-slotted

    pub numbered-bytes : IsBytes (numbered w p i s v)
    unfolding numbered
    numbered-bytes = put_all-bytes (slotted w p i s v) (number_fields (more w (numbers_of p) (length s))) slotted-bytes

    frame-numbered : frame_of (numbered w p i s v) ≡ frame_of p
    unfolding view_of
    frame-numbered = ap (λ (N : View). N.frame) numbered-view

    -- ---- the square
    view-refreshed : refreshed (view_of w (numbered w p i s v)) (view_of w (numbered w p i s v)).numbers (view_of w (numbered w p i s v)).rows ≡ insert_view w (view_of w p) i s v
    unfolding insert_view refreshed view_of more
    view-refreshed = ap (λ (N : View). refreshed N N.numbers N.rows) numbered-view

    pub insert-square : view_of w (inserted w p i s v) ≡ insert_view w (view_of w p) i s v
    unfolding inserted view_of
    insert-square = refresh-view w (numbered w p i s v) length-numbered numbered-bytes (rw frame-numbered P.prefix_most) ∙ view-refreshed

  pub length_inserted : Placed w p (numbers_of p).end (numbers_of p).count → length (inserted w p i s v) ≡ 16384
  unfolding inserted
  length_inserted P = length-refresh (numbered w p i s v) ∙ length-numbered P

  pub inserted-bytes : Placed w p (numbers_of p).end (numbers_of p).count → IsBytes (inserted w p i s v)
  unfolding inserted
  inserted-bytes P = refresh-bytes (numbered w p i s v) (numbered-bytes P)
