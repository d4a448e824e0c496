-- A key changed on the page is the key changed on its view. The new payload lies below the end where it outgrows the old one, else within
-- the old one: either way it meets no other piece, and lies above every slot. Numbers and hints follow as for an insert. Assumes nothing.
use Rattle.std.proofs.Common.{◌≡◌, refl, sym, ap, ◌∙◌, Bool, true, false, ◌⊎◌, inl, inr, ⊎_elim, List, ℕ, ◌+◌, ◌*◌, ◌-◌, ◌≤◌, ◌<◌, arith, leb-true, ltb-true, ltb-false, le-leb, le-ltb, leb, ltb, length, get_or}
use Rattle.std.proofs.lemmas.Bool.{both_ways}
use native.Mathlib.Decide.{dec_le, dec_lt}
use borrow.Author.Tests.{lt-leb}
use Rattle.octets.specs.Bytes.{IsBytes, le, put}
use Rattle.octets.proofs.Put.{length-put, put_below, put-above, put-bytes}
use Rattle.octets.proofs.Little.{le-lt}
use Rattle.keys.specs.Choice.{pick}
use Rattle.paper.specs.Lists.{swap}
use Rattle.paper.specs.Page.{place, slot_of, body_bytes, value_at, row_of, rows_of, frame_of, Numbers, numbers_of, hints_of, View, view_of}
use Rattle.paper.specs.Space.{payload_bytes, free}
use Rattle.paper.specs.Verdicts.{Piece}
use Rattle.paper.specs.Edits.{slot_for, payload_of, slot_bytes, put_all, number_fields, outgrows, key_place, rekeyed, key_put, key_changed}
use Rattle.paper.specs.Calls.{room_for_key}
use Rattle.paper.specs.Views.{no_row, refreshed, row_for, change_view}
use Rattle.paper.specs.declared.page.Slot.{Slot}
use Rattle.paper.proofs.Lists.{getD-tab}
use Rattle.paper.proofs.Swaps.{tab-swap}
use Rattle.paper.proofs.Same.{Same, same-hints, body_bytes_short, body_bytes_long}
use Rattle.paper.proofs.Fields.{length-put_all, put_all-bytes}
use Rattle.paper.proofs.Slots.{length-slot_bytes, slot_bytes-bytes, slot-alike, slot_back}
use Rattle.paper.proofs.Payloads.{length-payload, payload-bytes, slot_for_fits, row_back}
use Rattle.paper.proofs.Stages.{Fits, numbers-view, refresh-view, length-refresh, refresh-bytes}
use Rattle.paper.proofs.Fit.{Rules, Fit, length-rows, placed}
use Rattle.paper.proofs.Untouched.{Save, Clear, clear_in, clear-below, row_piece, others, frame-kept}

-- ---- where the payload goes
module _ (o : Slot) (s : List ℕ) where
  -- the new suffix is long and longer than the old one
  pub outgrown : outgrows o s ≡ true → (4 < length s) × (o.len < length s)
  unfolding outgrows
  outgrown e = go (dec_le (length s) 4) e
    where
      go : Dec (length s ≤ 4) → pick (leb (length s) 4) false (ltb o.len (length s)) ≡ true → (4 < length s) × (o.len < length s)
      go (yes d) e = absurd (both_ways false refl (rw (le-leb (length s) 4 d) at e))
      go (no d) e = (omega arith, ltb-true o.len (length s) (rw (lt-leb (length s) 4 (omega arith)) at e))

  -- else it takes no more of the body than the old one did
  pub fits_in : outgrows o s ≡ false → body_bytes 4 (length s) ≤ body_bytes 4 o.len
  unfolding outgrows
  fits_in e = go (dec_le (length s) 4) e
    where
      go : Dec (length s ≤ 4) → pick (leb (length s) 4) false (ltb o.len (length s)) ≡ false → body_bytes 4 (length s) ≤ body_bytes 4 o.len
      go (yes d) e = omega (arith, body_bytes_short 4 (length s) d)
      go (no d) e =
          let l = ltb-false o.len (length s) (rw (lt-leb (length s) 4 (omega arith)) at e) in
          omega (arith, body_bytes_long 4 (length s) (omega arith), body_bytes_long 4 o.len (omega arith))

  pub not-outgrown : length s ≤ o.len → outgrows o s ≡ false
  unfolding outgrows
  not-outgrown h = go (leb (length s) 4)
    where
      go : (b : Bool) → pick b false (ltb o.len (length s)) ≡ false
      go true = refl
      go false = le-ltb o.len (length s) h

module _ (w : ℕ) (n : Numbers) (o : Slot) (s : List ℕ) where
  -- below the end, which falls by the new payload
  pub place-new : outgrows o s ≡ true → (key_place w n o s ≡ n.end - payload_bytes w (length s)) × ((rekeyed w n o s).end ≡ n.end - payload_bytes w (length s))
  unfolding key_place rekeyed
  place-new e =
      let k : body_bytes 4 (length s) ≡ length s = body_bytes_long 4 (length s) (outgrown o s e).0 in
      (rw (e, k), rw (e, k))

  -- or where it was
  pub place-old : outgrows o s ≡ false → (key_place w n o s ≡ o.offset) × ((rekeyed w n o s).end ≡ n.end)
  unfolding key_place rekeyed
  place-old e = (rw e, rw e)

-- what the new payload and the new end keep to
pub record Spot (w : ℕ) (p : List ℕ) (i : ℕ) (s : List ℕ) (o e : ℕ) : Type 0 where
  pub start : 8 * (numbers_of p).count ≤ e
  pub end : e ≤ (numbers_of p).end
  pub low : e ≤ o
  pub high : o + payload_bytes w (length s) ≤ 16256
  pub clear : Clear w (view_of w p) i (record { lo = o; hi = o + payload_bytes w (length s) })

module _ (w : ℕ) (p : List ℕ) (i : ℕ) (s : List ℕ) (F : Fit w (view_of w p)) (h : i < (numbers_of p).count) (room : room_for_key w p i s ≡ true) where
  abbrev O : Slot
  O = slot_of p i

  rules : Rules (frame_of p) (numbers_of p)
  unfolding view_of
  rules = F.r1

  below : (o : ℕ) → o + payload_bytes w (length s) ≤ (numbers_of p).end → Clear w (view_of w p) i (record { lo = o; hi = o + payload_bytes w (length s) })
  unfolding view_of
  below o k = clear-below w (view_of w p) F i (record { lo = o; hi = o + payload_bytes w (length s) }) k

  pub roomy : outgrows O s ≡ true → (numbers_of p).start + payload_bytes w (length s) ≤ (numbers_of p).end
  unfolding room_for_key
  roomy e =
      let r = leb-true (length s + w) (free (numbers_of p)) (rw e at room) in
      omega (arith, (outgrown O s e).0, body_bytes_long 4 (length s) (outgrown O s e).0, rules.order)

  pub spot-key : Spot w p i s (key_place w (numbers_of p) O s) (rekeyed w (numbers_of p) O s).end
  spot-key = go (outgrows O s) refl
    where
      go : (b : Bool) → outgrows O s ≡ b → Spot w p i s (key_place w (numbers_of p) O s) (rekeyed w (numbers_of p) O s).end
      go true e =
          let x = place-new w (numbers_of p) O s e in
          let r = roomy e in
          rw (x.0, x.1)
          (record {
            start = omega (arith, rules.start);
            end = omega arith;
            low = omega arith;
            high = omega (arith, rules.top);
            clear = below ((numbers_of p).end - payload_bytes w (length s)) (omega arith);
          })
      go false e =
          let x = place-old w (numbers_of p) O s e in
          let k = fits_in O s e in
          let m = (placed w p F).rows i h in
          rw (x.0, x.1)
          (record {
            start = omega (arith, rules.start, rules.order);
            end = omega arith;
            low = m.0;
            high = omega (arith, m.1);
            clear = clear_in w (view_of w p) F i (rw (length-rows w p) h) (record { lo = O.offset; hi = O.offset + payload_bytes w (length s) }) (rw (row_piece w p i h) (omega arith)) (rw (row_piece w p i h) (omega arith));
          })

-- ---- payload and slot written
module _ (w : ℕ) (p : List ℕ) (i : ℕ) (s : List ℕ) where
  abbrev o : ℕ
  o = key_place w (numbers_of p) (slot_of p i) s

  abbrev v : ℕ
  v = le w p (value_at (slot_of p i))

  abbrev mid : List ℕ
  mid = put p (96 + o) (payload_of w s v)

  pub length-keyPut : length p ≡ 16384 → length (key_put w p i s) ≡ 16384
  unfolding key_put
  length-keyPut size = length-put mid (place i) (slot_bytes (slot_for s o)) ∙ length-put p (96 + o) (payload_of w s v) ∙ size

  pub keyPut-bytes : IsBytes p → IsBytes s → IsBytes (key_put w p i s)
  unfolding key_put
  keyPut-bytes b hs =
      put-bytes mid (place i) (slot_bytes (slot_for s o)) (put-bytes p (96 + o) (payload_of w s v) b (payload-bytes w s v hs)) (slot_bytes-bytes (slot_for s o))

  -- bytes outside the slot
  keyPut-out : (j : ℕ) → (j < place i) ⊎ (place i + 8 ≤ j) → get_or (key_put w p i s) j 0 ≡ get_or mid j 0
  unfolding key_put
  keyPut-out j k =
      ⊎_elim (λ l. put_below mid (place i) (slot_bytes (slot_for s o)) j l) (λ (l : place i + 8 ≤ j). put-above mid (place i) (slot_bytes (slot_for s o)) j (rw length-slot_bytes l)) k

  module _ (size : length p ≡ 16384) (b : IsBytes p) (F : Fit w (view_of w p)) (h : i < (numbers_of p).count) (hs : IsBytes s) (room : room_for_key w p i s ≡ true) where
    abbrev n : ℕ
    n = (numbers_of p).count

    abbrev q : List ℕ
    q = key_put w p i s

    abbrev x : Piece
    x = record { lo = o; hi = o + payload_bytes w (length s) }

    S : Spot w p i s o (rekeyed w (numbers_of p) (slot_of p i) s).end
    S = spot-key w p i s F h room

    R : Rules (frame_of p) (numbers_of p)
    unfolding view_of
    R = F.r1

    equal : length q ≡ length p
    equal = length-keyPut size ∙ sym size

    -- the payload lies above every slot
    above : 8 * n ≤ o
    above = let l = S.low in omega (arith, S.start)

    header-same : (a b : ℕ) → b ≤ 96 → Same q p a b
    header-same a b k j l m = keyPut-out j (inl (omega arith)) ∙ put_below p (96 + o) (payload_of w s v) j (omega arith)

    save : Save q p (96 + (numbers_of p).end) x
    save j a k =
        keyPut-out j (inr (omega (arith, R.start, R.order)))
        ∙ ⊎_elim (λ (l : j < 96 + x.lo). put_below p (96 + o) (payload_of w s v) j l)
        (λ (l : 96 + x.hi ≤ j). put-above p (96 + o) (payload_of w s v) j (rw (length-payload w s v) (omega arith)))
        k

    payload_same : Same q mid (96 + o) (96 + o + payload_bytes w (length s))
    payload_same j l m = keyPut-out j (inr (omega (arith, above)))

    -- ---- the slots
    slot-other : (j : ℕ) → j < n → (j ≡ i → ⊥) → slot_of q j ≡ slot_of p j
    unfolding slot_of
    slot-other j m k =
        slot-alike q (place j) p (place j)
        (λ c l. keyPut-out (place j + c) (side c l (dec_lt j i)) ∙ put_below p (96 + o) (payload_of w s v) (place j + c) (omega (arith, above)))
      where
        side : (c : ℕ) → c < 8 → Dec (j < i) → (place j + c < place i) ⊎ (place i + 8 ≤ place j + c)
        side c l (yes d) = inl (omega arith)
        side c l (no d) = elim (dec_le j i) [ yes e ↦ absurd (k (omega arith)) | no e ↦ inr (omega arith) ]

    slot-here : slot_of q i ≡ slot_for s o
    unfolding slot_of key_put
    slot-here =
        slot_back mid (place i) (slot_for s o) (rw (length-put p (96 + o) (payload_of w s v)) (omega (arith, R.start, R.order, R.top)))
        (slot_for_fits s o hs (omega (arith, S.high)))

    -- ---- what is read
    pub frame-put : frame_of q ≡ frame_of p
    frame-put = frame-kept w q p equal F i h x S.clear save (header-same 0 2 (omega arith)) (header-same 8 40 (omega arith)) (header-same 44 64 (omega arith))

    pub hints-put : hints_of q ≡ hints_of p
    hints-put = same-hints q p 64 96 (header-same 64 96 (omega arith)) (omega arith) (omega arith)

    pub rows-put : rows_of w q n ≡ swap i (row_for s v o) (rows_of w p n)
    rows-put =
        tab-swap n i (λ j. row_of w p (slot_of p j)) (λ j. row_of w q (slot_of q j)) (row_for s v o) h
        (λ j m k. rw (slot-other j m k) (others w q p equal F i h x S.clear save j m k))
        (rw slot-here (row_back w p o s v size S.high hs (le-lt w p (value_at (slot_of p i)) b) q equal payload_same))

    -- ---- the numbers
    fits : Fits (rekeyed w (numbers_of p) (slot_of p i) s)
    fits =
        record {
          count = unfold rekeyed in omega (arith, R.start, R.order, R.top);
          start = unfold rekeyed in omega (arith, R.order, R.top);
          end = omega (arith, S.end, R.top);
          effective = unfold rekeyed in omega (arith, R.high, S.high);
        }

    abbrev numbered : List ℕ
    numbered = put_all q (number_fields (rekeyed w (numbers_of p) (slot_of p i) s))

    length-numbered : length numbered ≡ 16384
    length-numbered = length-put_all q (number_fields (rekeyed w (numbers_of p) (slot_of p i) s)) ∙ length-keyPut size

    numbered-bytes : IsBytes numbered
    numbered-bytes = put_all-bytes q (number_fields (rekeyed w (numbers_of p) (slot_of p i) s)) (keyPut-bytes b hs)

    rekeyed-count : (rekeyed w (numbers_of p) (slot_of p i) s).count ≡ n
    unfolding rekeyed
    rekeyed-count = refl

    numbered-view : view_of w numbered
        ≡ record { frame = frame_of p; numbers = rekeyed w (numbers_of p) (slot_of p i) s; hints = hints_of p; rows = swap i (row_for s v o) (rows_of w p n) }
    numbered-view =
        numbers-view w q (rekeyed w (numbers_of p) (slot_of p i) s) (length-keyPut size) (rw frame-put R.prefix_most) fits
        ∙ rw (frame-put, hints-put, rekeyed-count, rows-put)

    frame-numbered : frame_of numbered ≡ frame_of p
    unfolding view_of
    frame-numbered = ap (λ (N : View). N.frame) numbered-view

    -- ---- the square
    view-refreshed : refreshed (view_of w numbered) (view_of w numbered).numbers (view_of w numbered).rows ≡ change_view w (view_of w p) i s
    view-refreshed = ap (λ (N : View). refreshed N N.numbers N.rows) numbered-view ∙ changed
      where
        changed : refreshed (record { frame = frame_of p; numbers = rekeyed w (numbers_of p) (slot_of p i) s; hints = hints_of p; rows = swap i (row_for s v o) (rows_of w p n) }) (rekeyed w (numbers_of p) (slot_of p i) s) (swap i (row_for s v o) (rows_of w p n))
            ≡ change_view w (view_of w p) i s
        changed = unfold change_view refreshed view_of row_of in rw (getD-tab n (λ j. row_of w p (slot_of p j)) i no_row h)

    -- the page then reads as it did, but for the row, the numbers and the hints in use
    pub change-square : view_of w (key_changed w p i s) ≡ change_view w (view_of w p) i s
    unfolding key_changed view_of
    change-square = refresh-view w numbered length-numbered numbered-bytes (rw frame-numbered R.prefix_most) ∙ view-refreshed

    pub length-changed : length (key_changed w p i s) ≡ 16384
    unfolding key_changed
    length-changed = length-refresh numbered ∙ length-numbered

    pub changed-bytes : IsBytes (key_changed w p i s)
    unfolding key_changed
    changed-bytes = refresh-bytes numbered numbered-bytes
