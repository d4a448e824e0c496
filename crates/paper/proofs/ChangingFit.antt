-- A key that is changed leaves a fit page fit, rule by rule: a row in another's place, whose payload is clear of all other pieces and whose
-- key stands between its neighbours. Effective follows the needs, and packing bounds it where the payload is new. Assumes nothing.
use Rattle.std.proofs.Common.{◌≡◌, refl, ap, ◌∙◌, Bool, true, false, List, ◌++◌, map, ℕ, ◌+◌, ◌-◌, ◌≤◌, ◌<◌, arith, eq-eqb, length, get_or}
use lib.ListN.{length-map}
use Rattle.octets.specs.Bytes.{IsBytes, le}
use Rattle.keys.specs.Choice.{both}
use Rattle.keys.specs.Keys.{head_of}
use Rattle.paper.specs.Lists.{swap, all, sum}
use Rattle.paper.specs.Page.{slot_of, body_bytes, value_at, Row, row_of, frame_of, Numbers, numbers_of, hints_of, View, view_of, key_of}
use Rattle.paper.specs.Space.{payload_bytes, need, fence_bytes}
use Rattle.paper.specs.Hints.{in_use, fresh}
use Rattle.paper.specs.Verdicts.{payload, frame_pieces, within, apart, inside, keys_of, faithful, head_at, u2, u3, u4, u5, u6, u7, u8, u9}
use Rattle.paper.specs.Listing.{Entry, entry_of, listing}
use Rattle.paper.specs.Edits.{slot_for, outgrows, key_place, rekeyed, key_changed}
use Rattle.paper.specs.Calls.{room_for_key, between}
use Rattle.paper.specs.Views.{no_row, refreshed, row_for, change_view}
use Rattle.paper.specs.declared.page.Slot.{Slot}
use Rattle.paper.proofs.Lists.{both_parts, both_yes, all-weaken, getD-tab, map-swap}
use Rattle.paper.proofs.Swaps.{all-swap, pairs-swap, sum-swap, sum-at, swap-append, Amid, amid, rising_swap}
use Rattle.paper.proofs.Fit.{within_fact, fact_within, Rules, Fit, apart_sym, effective_is, effective-used, length-rows}
use Rattle.paper.proofs.InsertFit.{refreshed-fresh}
use Rattle.paper.proofs.Untouched.{pieces, Clear, length-pieces}
use Rattle.paper.proofs.Listed.{listed}
use Rattle.paper.proofs.Changing.{fits_in, spot-key, roomy, change-square}

-- what a row of the suffix s in the place of row i, with its payload at o and the numbers n, asks of the page
pub record Moves (w : ℕ) (N : View) (i : ℕ) (s : List ℕ) (n : Numbers) (o : ℕ) : Type 0 where
  pub there : i < length N.rows
  pub count : n.count ≡ N.numbers.count
  pub start : n.start ≡ N.numbers.start
  pub order : n.start ≤ n.end
  pub end : n.end ≤ N.numbers.end
  pub low : n.end ≤ o
  pub high : o + payload_bytes w (length s) ≤ 16256
  pub clear : Clear w N i (record { lo = o; hi = o + payload_bytes w (length s) })
  pub effective : n.effective + need w (get_or N.rows i no_row).slot.len ≡ N.numbers.effective + need w (length s)
  pub most : n.effective ≤ 16352
  pub fenced : inside N.frame (N.frame.prefix ++ s) ≡ true
  pub amid : Amid (keys_of N) i (N.frame.prefix ++ s)

module _ (w : ℕ) (N : View) (i : ℕ) (s : List ℕ) (v : ℕ) (n : Numbers) (o : ℕ) (F : Fit w N) (M : Moves w N i s n o) where
  abbrev r : Row
  r = row_for s v o

  abbrev M' : View
  M' = refreshed N n (swap i r N.rows)

  abbrev k : List ℕ
  k = N.frame.prefix ++ s

  new-piece : payload w r ≡ record { lo = o; hi = o + payload_bytes w (length s) }
  unfolding payload row_for slot_for
  new-piece = refl

  new-key : key_of N.frame r ≡ k
  unfolding row_for
  new-key = refl

  new-need : need w r.slot.len ≡ need w (length s)
  unfolding row_for slot_for
  new-need = refl

  new-faithful : faithful r.slot r.suffix ≡ true
  unfolding faithful row_for slot_for
  new-faithful = eq-eqb (head_of s) (head_of s) refl

  keys-new : map (key_of N.frame) (swap i r N.rows) ≡ swap i k (keys_of N)
  keys-new = map-swap (key_of N.frame) i r N.rows ∙ rw new-key

  payloads-new : map (payload w) (swap i r N.rows) ≡ swap i (payload w r) (map (payload w) N.rows)
  payloads-new = map-swap (payload w) i r N.rows

  -- effective is again what U8 says
  effective-new : n.effective ≡ 96 + fence_bytes N.frame.prefix_len N.frame.lower.len N.frame.upper.len + sum (λ (x : Row). need w x.slot.len) (swap i r N.rows)
  effective-new =
      omega (
        arith,
        M.effective,
        effective_is w N F.r8,
        sum-swap (λ (x : Row). need w x.slot.len) i r no_row N.rows M.there,
        new-need,
      )

  rules-new : Rules N.frame n
  rules-new =
      let R = F.r1 in
      let e = M.end in
      record {
        initialized = R.initialized;
        flag = R.flag;
        start = omega (arith, M.start, M.count);
        order = M.order;
        top = omega arith;
        low = omega (arith, effective-new);
        high = M.most;
        prefix_most = R.prefix_most;
        prefix = λ q. omega (arith, R.prefix q);
        lower = λ q. let x = R.lower q in (omega arith, x.1);
        upper = λ q. let x = R.upper q in (omega arith, x.1);
      }

  u2-new : u2 w M' ≡ true
  unfolding u2 refreshed
  u2-new =
      let e = M.end in
      let P = map (payload w) N.rows in
      rw payloads-new
      (all-swap (within n.end) i (payload w r) P (rw new-piece (fact_within n.end (record { lo = o; hi = o + payload_bytes w (length s) }) (M.low, M.high)))
      (all-weaken (within N.numbers.end) (within n.end) P
      (λ a h. let x = within_fact N.numbers.end a h in fact_within n.end a (omega arith, x.1)) F.r2))

  u3-new : u3 w M' ≡ true
  unfolding u3 refreshed
  u3-new =
      let P = map (payload w) N.rows in
      rw (payloads-new, swap-append i (payload w r) P (frame_pieces N.frame) (rw (length-map N.rows (payload w)) M.there))
      (pairs-swap apart apart_sym i (payload w r) (payload w r) (pieces w N) (omega (arith, length-pieces w N, M.there)) (rw new-piece M.clear) F.r3)

  u4-new : u4 M' ≡ true
  unfolding u4 refreshed
  u4-new =
      let fences = both (faithful N.frame.lower N.frame.lower_suffix) (faithful N.frame.upper N.frame.upper_suffix) in
      let entries = all (λ (x : Row). faithful x.slot x.suffix) N.rows in
      let old = both_parts fences entries F.r4 in
      both_yes fences (all (λ (x : Row). faithful x.slot x.suffix) (swap i r N.rows)) old.0
      (all-swap (λ (x : Row). faithful x.slot x.suffix) i r N.rows new-faithful old.1)

  u6-new : u6 M' ≡ true
  unfolding u6 refreshed
  u6-new = rw keys-new (all-swap (inside N.frame) i k (keys_of N) M.fenced F.r6)

  u7-new : u7 M' ≡ true
  unfolding u7 refreshed
  u7-new = rw keys-new (rising_swap i k (keys_of N) M.amid F.r7)

  u8-new : u8 w M' ≡ true
  unfolding u8 refreshed
  u8-new =
      eq-eqb n.effective (96 + fence_bytes N.frame.prefix_len N.frame.lower.len N.frame.upper.len + sum (λ (x : Row). need w x.slot.len) (swap i r N.rows))
      effective-new

  pub moved_fit : Fit w (refreshed N n (swap i (row_for s v o) N.rows))
  unfolding refreshed u5 u9
  moved_fit =
      record {
        r1 = rules-new;
        r2 = u2-new;
        r3 = u3-new;
        r4 = u4-new;
        r5 = F.r5;
        r6 = u6-new;
        r7 = u7-new;
        r8 = u8-new;
        r9 = refreshed-fresh (in_use N.frame.flag n.count) (fresh n.count (head_at (swap i r N.rows))) N.hints;
      }

-- ---- a key changed
-- the row of slot i
row_at : (w : ℕ) (p : List ℕ) (i : ℕ) → i < (numbers_of p).count → get_or (view_of w p).rows i no_row ≡ row_of w p (slot_of p i)
unfolding view_of
row_at w p i h = getD-tab (numbers_of p).count (λ j. row_of w p (slot_of p j)) i no_row h

module _ (w : ℕ) (p : List ℕ) (i : ℕ) (s : List ℕ) (F : Fit w (view_of w p)) (h : i < (numbers_of p).count) (room : room_for_key w p i s ≡ true) where
  abbrev O : Slot
  O = slot_of p i

  abbrev K : Numbers
  K = rekeyed w (numbers_of p) O s

  rules : Rules (frame_of p) (numbers_of p)
  unfolding view_of
  rules = F.r1

  own-need : need w (get_or (view_of w p).rows i no_row).slot.len ≡ 8 + w + body_bytes 4 O.len
  unfolding need row_of
  own-need = ap (λ (r : Row). need w r.slot.len) (row_at w p i h)

  needs-le : sum (λ (r : Row). need w r.slot.len) (view_of w p).rows ≤ (numbers_of p).effective
  unfolding view_of
  needs-le = omega (arith, effective_is w (view_of w p) F.r8)

  -- effective holds the bytes that are dropped
  pub dropped : body_bytes 4 O.len ≤ (numbers_of p).effective
  dropped = omega (arith, own-need, needs-le, sum-at (λ (r : Row). need w r.slot.len) i no_row (view_of w p).rows (rw (length-rows w p) h))

  effective-moves : K.effective + need w (get_or (view_of w p).rows i no_row).slot.len ≡ (numbers_of p).effective + need w (length s)
  unfolding rekeyed need
  effective-moves = omega (arith, own-need, dropped)

  used : (numbers_of p).effective + (numbers_of p).end ≤ 16352 + (numbers_of p).start
  unfolding view_of
  used = effective-used w (view_of w p) F (length-rows w p)

  -- where the payload is new, what it adds was free
  effective-most : K.effective ≤ 16352
  unfolding rekeyed
  effective-most = go (outgrows O s) refl
    where
      go : (b : Bool) → outgrows O s ≡ b → (numbers_of p).effective + body_bytes 4 (length s) - body_bytes 4 O.len ≤ 16352
      go true e = omega (arith, used, roomy w p i s F h room e)
      go false e = omega (arith, rules.high, fits_in O s e)

  module _ (fenced : inside (frame_of p) ((frame_of p).prefix ++ s) ≡ true) (amidst : between (keys_of (view_of w p)) i ((frame_of p).prefix ++ s) ≡ true) where
    moves : Moves w (view_of w p) i s K (key_place w (numbers_of p) O s)
    unfolding view_of rekeyed
    moves =
        let S = spot-key w p i s F h room in
        record {
          there = rw (length-rows w p) h;
          count = refl;
          start = refl;
          order = omega (arith, S.start, rules.start);
          end = S.end;
          low = S.low;
          high = S.high;
          clear = S.clear;
          effective = effective-moves;
          most = effective-most;
          fenced = fenced;
          amid = amid (keys_of (view_of w p)) i ((frame_of p).prefix ++ s) amidst;
        }

    -- every rule holds again
    pub change-fit : Fit w (change_view w (view_of w p) i s)
    unfolding change_view
    change-fit = rw (row_at w p i h) here
      where
        here : Fit w (refreshed (view_of w p) (rekeyed w (view_of w p).numbers (row_of w p (slot_of p i)).slot s) (swap i (row_for s (row_of w p (slot_of p i)).value (key_place w (view_of w p).numbers (row_of w p (slot_of p i)).slot s)) (view_of w p).rows))
        here = unfold view_of row_of in moved_fit w (view_of w p) i s (row_of w p (slot_of p i)).value K (key_place w (numbers_of p) O s) F moves

-- ---- on the page
module _ (w : ℕ) (p : List ℕ) (i : ℕ) (s : List ℕ) (size : length p ≡ 16384) (b : IsBytes p) (F : Fit w (view_of w p)) (h : i < (numbers_of p).count) (hs : IsBytes s) (room : room_for_key w p i s ≡ true) where
  abbrev q : List ℕ
  q = key_changed w p i s

  square : view_of w q ≡ change_view w (view_of w p) i s
  square = change-square w p i s size b F h hs room

  -- the frame is the same
  pub change-frame : frame_of q ≡ frame_of p
  unfolding view_of change_view refreshed
  change-frame = ap (λ (N : View). N.frame) square

  -- the numbers follow
  pub change_numbers : numbers_of q ≡ rekeyed w (numbers_of p) (slot_of p i) s
  change_numbers = numbers_are ∙ slot_is
    where
      numbers_are : numbers_of q ≡ rekeyed w (numbers_of p) (get_or (view_of w p).rows i no_row).slot s
      numbers_are = unfold view_of change_view refreshed in ap (λ (N : View). N.numbers) square

      slot_is : rekeyed w (numbers_of p) (get_or (view_of w p).rows i no_row).slot s ≡ rekeyed w (numbers_of p) (slot_of p i) s
      slot_is = unfold row_of in ap (λ (r : Row). rekeyed w (numbers_of p) r.slot s) (row_at w p i h)

  -- hints that are not in use stay
  pub change-hints : in_use (frame_of p).flag (numbers_of p).count ≡ false → hints_of q ≡ hints_of p
  change-hints e = hints-are ∙ unused
    where
      hints-are : hints_of q ≡ (change_view w (view_of w p) i s).hints
      hints-are = unfold view_of in ap (λ (N : View). N.hints) square

      unused : (change_view w (view_of w p) i s).hints ≡ hints_of p
      unused = unfold change_view refreshed view_of rekeyed in rw e

  -- the listing has the new key in its place, with the old value
  pub change-listing : (d : Entry) → listing w q ≡ swap i (record { key = (frame_of p).prefix ++ s; value = (get_or (listing w p) i d).value }) (listing w p)
  change-listing d = rw (listed w p i d h) shown
    where
      entry : (o : ℕ) → entry_of (frame_of p) (row_for s (get_or (view_of w p).rows i no_row).value o) ≡ record { key = (frame_of p).prefix ++ s; value = le w p (value_at (slot_of p i)) }
      entry o = unfold row_for row_of in ap (λ (r : Row). entry_of (frame_of p) (row_for s r.value o)) (row_at w p i h)

      here : map (entry_of (change_view w (view_of w p) i s).frame) (change_view w (view_of w p) i s).rows ≡ swap i (record { key = (frame_of p).prefix ++ s; value = le w p (value_at (slot_of p i)) }) (listing w p)
      here = unfold change_view refreshed listing view_of in
          let o = key_place w (numbers_of p) (get_or (view_of w p).rows i no_row).slot s in
          map-swap (entry_of (frame_of p)) i (row_for s (get_or (view_of w p).rows i no_row).value o) (view_of w p).rows
          ∙ ap (λ (e : Entry). swap i e (map (entry_of (frame_of p)) (view_of w p).rows)) (entry o)

      shown : listing w q ≡ swap i (record { key = (frame_of p).prefix ++ s; value = le w p (value_at (slot_of p i)) }) (listing w p)
      shown = unfold listing in rw square here

  pub change-fits : inside (frame_of p) ((frame_of p).prefix ++ s) ≡ true → between (keys_of (view_of w p)) i ((frame_of p).prefix ++ s) ≡ true → Fit w (view_of w q)
  change-fits fenced amidst = rw square (change-fit w p i s F h room fenced amidst)
