-- An entry filed: the writers one after the other leave the paper's page, and the header that was written back is that page's header.
-- Assumes nothing.
use Rattle.std.proofs.Common.{◌≡◌, refl, sym, ap, ◌∙◌, inl, true, List, ℕ, ◌+◌, ◌*◌, ◌≤◌, arith, length}
use Rattle.octets.specs.Bytes.{put}
use Rattle.octets.proofs.Put.{length-put, put_below}
use Rattle.paper.specs.Page.{place, Numbers, header_of, frame_of, numbers_of}
use Rattle.paper.specs.Space.{need}
use Rattle.paper.specs.Hints.{refresh}
use Rattle.paper.specs.Edits.{new_end, payload_of, slot_for, slot_in, put_all, number_fields, more, loaded, slotted, numbered}
use Rattle.paper.specs.declared.page.Header.{Header}
use Rattle.paper.proofs.Same.{Same, same-le, same-slot}
use Rattle.paper.proofs.Fields.{clear, length-put_all, same_clear, le-field}
use Rattle.paper.proofs.Slots.{length-slotIn, slotIn-out}
use Rattle.paper.proofs.Stages.{Fits}
use Rattle.node.specs.Header.{numbers_in}
use Rattle.hint.specs.Refresh.{refresh_as}
use Rattle.hint.proofs.Refreshed.{refresh-as}
use Rattle.write.specs.Room.{with_numbers, Room}

-- the numbers of a page are those of its header
pub numbers_are : (p : List ℕ) (h : Header) → h ≡ header_of p → numbers_of p ≡ numbers_in h
unfolding header_of
numbers_are p h e = ap numbers_in (sym e)

-- ---- the header of a page whose numbers were written: q is as p was below its body
module _ (q p : List ℕ) (n : Numbers) (l : 96 ≤ length q) (F : Fits n) (S : Same q p 0 96) where
  abbrev r : List ℕ
  r = put_all q (number_fields n)

  kept : (o m : ℕ) → clear o m (number_fields n) ≡ true → o + m ≤ 96 → Same (put_all q (number_fields n)) p o (o + m)
  kept o m e b j x y = same_clear q (number_fields n) o m e j x y ∙ S j (omega arith) (omega arith)

  pub header-numbers : header_of (put_all q (number_fields n)) ≡ with_numbers (header_of p) n
  unfolding header_of frame_of numbers_of with_numbers number_fields
  header-numbers =
      let fs = number_fields n in
      let low = kept 0 2 refl (omega arith) in
      let mid = kept 8 32 refl (omega arith) in
      let high = kept 44 4 refl (omega arith) in
      rw (
        same-le r p 0 2 low 2 0 (omega arith) (omega arith),
        le-field fs 0 q 96 l refl F.count,
        le-field fs 1 q 96 l refl F.start,
        le-field fs 2 q 96 l refl F.end,
        same-le r p 8 40 mid 8 8 (omega arith) (omega arith),
        same-slot r p 8 40 mid 16 (omega arith) (omega arith),
        same-le r p 8 40 mid 8 24 (omega arith) (omega arith),
        same-slot r p 8 40 mid 32 (omega arith) (omega arith),
        le-field fs 3 q 96 l refl F.effective,
        same-le r p 44 48 high 1 44 (omega arith) (omega arith),
        same-le r p 44 48 high 1 45 (omega arith) (omega arith),
        same-le r p 44 48 high 2 46 (omega arith) (omega arith),
      )

-- the refresh by a header is that of its page
pub refresh_by : (q : List ℕ) (g : Header) → g ≡ header_of q → refresh_as g.flag g.count q ≡ refresh q
unfolding header_of
refresh_by q g e = refresh-as q g.flag g.count (ap (λ (h : Header). h.flag) e) (ap (λ (h : Header). h.count) e)

-- ---- insert
-- the header that was read has the page's room
pub room_read : (w : ℕ) (p : List ℕ) (h : Header) (i k : ℕ) → h ≡ header_of p → Room w p (header_of p) i k → Room w p h i k
room_read w p h i k e R = rw e R

module _ (w : ℕ) (p : List ℕ) (h : Header) (i : ℕ) (s : List ℕ) (v : ℕ) (R : Room w p h i (length s)) (g : Header) (e : g ≡ with_numbers h (more w (numbers_in h) (length s))) where
  -- payload, slot and numbers written one after the other
  pub file-written : put_all (slot_in (put p (96 + g.end) (payload_of w s v)) h.count i (slot_for s g.end)) (number_fields (numbers_in g)) ≡ numbered w p i s v
  unfolding numbered slotted loaded with_numbers more header_of
  file-written = rw (e, R.header)

  same_numbers : numbers_of p ≡ numbers_in h
  same_numbers = numbers_are p h R.header

  slot-room : place (numbers_of p).count + 8 ≤ length p
  slot-room = rw same_numbers (omega (arith, R.size, R.start, R.top, R.room))

  -- its hints stand for slots of the page
  pub filed-slots : 96 + 8 * g.count ≤ 16384
  unfolding with_numbers more
  filed-slots = rw e (omega (arith, R.start, R.top, R.room))

  -- below the body nothing but the numbers changes
  header-same : Same (slotted w p i s v) p 0 96
  unfolding slotted loaded
  header-same j a b =
      let at = 96 + new_end w p s in
      let run = payload_of w s v in
      slotIn-out (put p at run) (numbers_of p).count i (slot_for s (new_end w p s)) (rw same_numbers R.slot) (rw length-put slot-room) j (inl (omega arith))
      ∙ put_below p at run j (omega arith)

  length-slotted : length (slotted w p i s v) ≡ length p
  unfolding slotted loaded
  length-slotted =
      length-slotIn (put p (96 + new_end w p s) (payload_of w s v)) (numbers_of p).count i (slot_for s (new_end w p s)) (rw same_numbers R.slot) (rw length-put slot-room)
      ∙ length-put p (96 + new_end w p s) (payload_of w s v)

  pub file-length : length (numbered w p i s v) ≡ length p
  unfolding numbered
  file-length = length-put_all (slotted w p i s v) (number_fields (more w (numbers_of p) (length s))) ∙ length-slotted

  fits : Fits (more w (numbers_of p) (length s))
  unfolding more need
  fits =
      rw same_numbers
      record {
        count = omega (arith, R.start, R.top, R.room);
        start = omega (arith, R.top, R.room);
        end = omega (arith, R.top);
        effective = omega (arith, R.effective, R.top, R.room);
      }

  -- the header is then the page's
  pub file-header : g ≡ header_of (numbered w p i s v)
  unfolding numbered
  file-header =
      let n = more w (numbers_of p) (length s) in
      e ∙ sym (header-numbers (slotted w p i s v) p n (omega (arith, R.size, length-slotted)) fits header-same ∙ rw (← R.header, same_numbers))
