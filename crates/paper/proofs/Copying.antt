-- A run copy on the page is the run copy on its view: each entry goes in as the last slot as an insert without hints does, which leaves the
-- page ready for the next one, and at the end all hints in use are refreshed. Assumes nothing.
use Rattle.std.proofs.Common.{◌≡◌, refl, sym, ap, ◌∙◌, true, List, [], ◌∷◌, ◌++◌, ℕ, suc, ◌+◌, ◌*◌, ◌^◌, ◌≤◌, ◌<◌, arith, ltb-true, length, get_or}
use native.Mathlib.Decide.{dec_lt}
use lib.ListN.{get_or-append}
use lib.Seq.{take-length, drop-length, get_or_at}
use Rattle.octets.specs.Bytes.{IsBytes}
use Rattle.octets.proofs.Put.{drop-bytes}
use Rattle.paper.specs.Lists.{ins, all, sum}
use Rattle.paper.specs.Page.{slot_of, Row, row_of, rows_of, frame_of, Numbers, numbers_of, View, view_of}
use Rattle.paper.specs.Space.{need}
use Rattle.paper.specs.Listing.{Entry}
use Rattle.paper.specs.Edits.{slot_for, new_end, more, numbered, appended, run_copied}
use Rattle.paper.specs.Searches.{probe_suffix}
use Rattle.paper.specs.Calls.{fits_width, need_of_all}
use Rattle.paper.specs.Views.{refreshed, row_for, no_row, append_view, run_view}
use Rattle.paper.proofs.Lists.{both_parts, ins-eq, length-tab, getD-tab}
use Rattle.paper.proofs.Same.{Held}
use Rattle.paper.proofs.Stages.{Placed, refresh-view, length-refresh, refresh-bytes}
use Rattle.paper.proofs.Inserting.{Room, numbered-view, length-numbered, numbered-bytes}

-- an element put in behind all others
pub ins_end : {A : Type 0} (x : A) (l : List A) (n : ℕ) → length l ≡ n → ins n x l ≡ l ++ x ∷ []
ins_end x l n e = rw (← e) (ins-eq (length l) x l (omega arith) ∙ rw (take-length l, drop-length l))

-- ---- one entry more, as the last slot
module _ (w : ℕ) (p : List ℕ) (s : List ℕ) (v : ℕ) (R : Room w p (numbers_of p).count s v) (P : Placed w p (numbers_of p).end (numbers_of p).count) where
  abbrev n : ℕ
  n = (numbers_of p).count

  abbrev q : List ℕ
  q = numbered w p (numbers_of p).count s v

  -- frame, numbers and rows as the view says
  frame-new : frame_of q ≡ frame_of p
  unfolding view_of
  frame-new = ap (λ (N : View). N.frame) (numbered-view w p n s v R P)

  numbers-new : numbers_of q ≡ more w (numbers_of p) (length s)
  unfolding view_of
  numbers-new = ap (λ (N : View). N.numbers) (numbered-view w p n s v R P)

  count-new : (numbers_of q).count ≡ n + 1
  unfolding more
  count-new = ap (λ (m : Numbers). m.count) numbers-new

  end-new : (numbers_of q).end ≡ new_end w p s
  unfolding more
  end-new = ap (λ (m : Numbers). m.end) numbers-new

  rows-view : rows_of w q (numbers_of q).count ≡ ins n (row_for s v (new_end w p s)) (rows_of w p n)
  unfolding view_of
  rows-view = ap (λ (N : View). N.rows) (numbered-view w p n s v R P)

  rows_new : rows_of w q (n + 1) ≡ rows_of w p n ++ row_for s v (new_end w p s) ∷ []
  rows_new =
      rw count-new at rows-view
      ∙ ins_end (row_for s v (new_end w p s)) (rows_of w p n) n (length-tab n (λ i. row_of w p (slot_of p i)))

  -- the row of slot j
  row_at : (j : ℕ) → j < n + 1 → row_of w q (slot_of q j) ≡ get_or (rows_of w p n ++ row_for s v (new_end w p s) ∷ []) j no_row
  row_at j h = sym (getD-tab (n + 1) (λ i. row_of w q (slot_of q i)) j no_row h) ∙ ap (λ (l : List Row). get_or l j no_row) rows_new

  -- old slots stand where they stood
  slot-old : (j : ℕ) → j < n → slot_of q j ≡ slot_of p j
  unfolding row_of
  slot-old j h =
      ap (λ (r : Row). r.slot)
      (row_at j (omega arith)
      ∙ get_or-append (rows_of w p n) (row_for s v (new_end w p s) ∷ []) no_row j (rw (length-tab n (λ i. row_of w p (slot_of p i))) h)
      ∙ getD-tab n (λ i. row_of w p (slot_of p i)) j no_row h)

  -- the new one comes last
  slot-last : slot_of q n ≡ slot_for s (new_end w p s)
  unfolding row_of row_for
  slot-last =
      ap (λ (r : Row). r.slot)
      (row_at n (omega arith) ∙ get_or_at (rows_of w p n) (row_for s v (new_end w p s)) [] no_row n (length-tab n (λ i. row_of w p (slot_of p i))))

  -- its payload lies from the new end on
  last-held : Held (new_end w p s) w (slot_for s (new_end w p s))
  unfolding slot_for
  last-held = (omega arith, omega (arith, R.room, R.top))

  -- what lies in the body lies from the new end on
  placed-new : Placed w q (numbers_of q).end (numbers_of q).count
  placed-new =
      record {
        prefix_most = rw frame-new P.prefix_most;
        prefix = rw (frame-new, end-new) (λ h. omega (arith, P.prefix h));
        lower = rw (frame-new, end-new) (λ h. let x = P.lower h in (omega arith, x.1));
        upper = rw (frame-new, end-new) (λ h. let x = P.upper h in (omega arith, x.1));
        rows = rw (count-new, end-new) (λ j h. go j h (dec_lt j n));
      }
    where
      go : (j : ℕ) → j < n + 1 → Dec (j < n) → Held (new_end w p s) w (slot_of q j)
      go j h (yes l) = rw (slot-old j l) (let x = P.rows j l in (omega arith, x.1))
      go j h (no l) = let e : j ≡ n = omega arith in rw (e, slot-last) last-held

-- ---- a run
-- what entries that are appended ask of the page
pub record Appends (w : ℕ) (p : List ℕ) (es : List Entry) : Type 0 where
  pub size : length p ≡ 16384
  pub bytes : IsBytes p
  pub start : (numbers_of p).start ≡ 8 * (numbers_of p).count
  pub top : (numbers_of p).end ≤ 16256
  pub room : (numbers_of p).start + need_of_all w p es ≤ (numbers_of p).end
  pub effective : (numbers_of p).effective + need_of_all w p es ≤ 16352
  pub placed : Placed w p (numbers_of p).end (numbers_of p).count
  pub key_bytes : (i : ℕ) → IsBytes (get_or es i (record { key = []; value = 0 })).key
  pub values : all (λ e. fits_width w e.value) es ≡ true

module _ (w : ℕ) (p : List ℕ) (e : Entry) (es : List Entry) (A : Appends w p (e ∷ es)) where
  abbrev s : List ℕ
  s = probe_suffix (frame_of p) e.key

  abbrev next : List ℕ
  next = numbered w p (numbers_of p).count (probe_suffix (frame_of p) e.key) e.value

  -- there is room for the first entry
  room-first : Room w p (numbers_of p).count s e.value
  unfolding all sum need_of_all need fits_width
  room-first =
      record {
        size = A.size;
        bytes = A.bytes;
        start = A.start;
        slot = omega arith;
        top = A.top;
        room = omega (arith, A.room, A.start);
        effective = omega (arith, A.effective);
        suffix = drop-bytes (frame_of p).prefix_len e.key (A.key_bytes 0);
        value = ltb-true e.value (256 ^ w) (both_parts (fits_width w e.value) (all (λ x. fits_width w x.value) es) A.values).0;
      }

  -- frame and numbers after it
  frame-next : frame_of next ≡ frame_of p
  frame-next = frame-new w p s e.value room-first A.placed

  numbers-next : numbers_of next ≡ more w (numbers_of p) (length s)
  numbers-next = numbers-new w p s e.value room-first A.placed

  -- the page after the first entry is ready for the others
  appends-next : Appends w next es
  unfolding all sum need_of_all need more
  appends-next =
      let r = A.room in
      let t = A.top in
      let c = A.start in
      let x = A.effective in
      record {
        size = length-numbered w p (numbers_of p).count s e.value room-first A.placed;
        bytes = numbered-bytes w p (numbers_of p).count s e.value room-first A.placed;
        start = rw numbers-next (omega arith);
        top = rw numbers-next (omega arith);
        room = rw (numbers-next, frame-next) (omega arith);
        effective = rw (numbers-next, frame-next) (omega arith);
        placed = placed-new w p s e.value room-first A.placed;
        key_bytes = λ i. A.key_bytes (suc i);
        values = (both_parts (fits_width w e.value) (all (λ x. fits_width w x.value) es) A.values).1;
      }

  -- its view is the first step of the whole
  view-next : append_view w (view_of w next) es ≡ append_view w (view_of w p) (e ∷ es)
  unfolding append_view view_of more
  view-next = ap (λ (N : View). append_view w N es) (numbered-view w p (numbers_of p).count s e.value room-first A.placed)

-- what the page q shows after es were appended to p
pub record Appended (w : ℕ) (p : List ℕ) (es : List Entry) (q : List ℕ) : Type 0 where
  pub size : length q ≡ 16384
  pub bytes : IsBytes q
  pub frame : frame_of q ≡ frame_of p
  pub view : view_of w q ≡ append_view w (view_of w p) es

-- entries appended one after the other
pub append-page : (w : ℕ) (es : List Entry) (p : List ℕ) → Appends w p es → Appended w p es (appended w p es)
unfolding appended
append-page w [] p A = record { size = A.size; bytes = A.bytes; frame = refl; view = unfold append_view in refl }
append-page w (e ∷ es) p A =
    let Q = append-page w es (next w p e es A) (appends-next w p e es A) in
    record { size = Q.size; bytes = Q.bytes; frame = Q.frame ∙ frame-next w p e es A; view = Q.view ∙ view-next w p e es A }

-- ---- the squares
-- without the hints
pub append_square : (w : ℕ) (p : List ℕ) (es : List Entry) → Appends w p es → view_of w (appended w p es) ≡ append_view w (view_of w p) es
append_square w p es A = (append-page w es p A).view

-- with the hints
pub run_square : (w : ℕ) (p : List ℕ) (es : List Entry) → Appends w p es → view_of w (run_copied w p es) ≡ run_view w (view_of w p) es
unfolding run_copied run_view
run_square w p [] A = refl
run_square w p (e ∷ es) A =
    let Q = append-page w (e ∷ es) p A in
    refresh-view w (appended w p (e ∷ es)) Q.size Q.bytes (rw Q.frame A.placed.prefix_most) ∙ again Q.view
  where
    again : view_of w (appended w p (e ∷ es)) ≡ append_view w (view_of w p) (e ∷ es)
        → refreshed (view_of w (appended w p (e ∷ es))) (numbers_of (appended w p (e ∷ es))) (rows_of w (appended w p (e ∷ es)) (numbers_of (appended w p (e ∷ es))).count)
        ≡ refreshed (append_view w (view_of w p) (e ∷ es)) (append_view w (view_of w p) (e ∷ es)).numbers (append_view w (view_of w p) (e ∷ es)).rows
    again f = unfold view_of in ap (λ (N : View). refreshed N N.numbers N.rows) f

-- length and bytes of the page after a run
pub length_run : (w : ℕ) (p : List ℕ) (es : List Entry) → Appends w p es → length (run_copied w p es) ≡ 16384
unfolding run_copied
length_run w p [] A = A.size
length_run w p (e ∷ es) A = length-refresh (appended w p (e ∷ es)) ∙ (append-page w (e ∷ es) p A).size

pub run-bytes : (w : ℕ) (p : List ℕ) (es : List Entry) → Appends w p es → IsBytes (run_copied w p es)
unfolding run_copied
run-bytes w p [] A k = A.bytes k
run-bytes w p (e ∷ es) A k = refresh-bytes (appended w p (e ∷ es)) (append-page w (e ∷ es) p A).bytes k
