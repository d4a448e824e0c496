-- One record on a fit page: it has the page's prefix since it lies between the fences, the insert is accepted, the page is fit again, its
-- listing is the old one with the record in its place, and nothing else of the header moves. Assumes nothing.
use Rattle.std.proofs.Common.{◌≡◌, refl, sym, ap, ◌∙◌, Bool, true, false, not, List, [], ◌∷◌, ◌++◌, map, ℕ, ◌+◌, ◌-◌, ◌^◌, ◌≤◌, arith, eqb-true, ltb-true, eq-eqb, le-leb, leb, length, take, length-append, take-append-drop, Ok, Err}
use native.Mathlib.Decide.{dec_le}
use borrow.Author.Tests.{not-true, lt-leb}
use lib.ListN.{length-map}
use Rattle.octets.specs.Bytes.{IsBytes, le, part}
use Rattle.octets.proofs.Part.{length-part-le}
use Rattle.octets.proofs.Put.{drop-bytes}
use Rattle.keys.specs.Choice.{pick}
use Rattle.keys.specs.Keys.{order}
use Rattle.keys.proofs.Orders.{eq_same_list}
use Rattle.paper.specs.Lists.{ins, all, less, differ}
use Rattle.paper.specs.Page.{prefix_of, Row, frame_of, numbers_of, view_of, key_of}
use Rattle.paper.specs.Space.{payload_bytes, need, free}
use Rattle.paper.specs.Verdicts.{upper_empty, inside, keys_of, fit_of, u5}
use Rattle.paper.specs.Listing.{Entry, entry_of, listing, keys, file}
use Rattle.paper.specs.Refusals.{judge}
use Rattle.paper.specs.Edits.{more, inserted}
use Rattle.paper.specs.Searches.{passed, probe_suffix, scan}
use Rattle.paper.specs.Calls.{is_width, fits_width, has_prefix, insert_checks, insert_of, insert_page}
use Rattle.paper.specs.Views.{refreshed, row_for, insert_view}
use Rattle.paper.proofs.Lists.{both_parts, map-ins}
use Rattle.paper.proofs.Sorted.{spot, up_to_le, file_ins, fenced-prefix}
use Rattle.paper.proofs.Same.{le-body_bytes}
use Rattle.paper.proofs.Fit.{Rules, Fit, fit_back, length-rows, placed}
use Rattle.paper.proofs.Inserting.{Room, insert-square, length_inserted, inserted-bytes}
use Rattle.paper.proofs.InsertFit.{Goes, insert-fit}

-- ---- a page and its listing
pub keys-listing : (w : ℕ) (p : List ℕ) → keys (listing w p) ≡ keys_of (view_of w p)
unfolding listing
keys-listing w p = go (view_of w p).rows
  where
    go : (l : List Row) → map (λ (e : Entry). e.key) (map (entry_of (view_of w p).frame) l) ≡ map (key_of (view_of w p).frame) l
    go [] = refl
    go (r ∷ l) = ap (λ (m : List (List ℕ)). key_of (view_of w p).frame r ∷ m) (go l)

pub length-listing : (w : ℕ) (p : List ℕ) → length (listing w p) ≡ (numbers_of p).count
unfolding listing
length-listing w p = length-map (view_of w p).rows (entry_of (view_of w p).frame) ∙ length-rows w p

pub length-prefix : (p : List ℕ) → length p ≡ 16384 → (frame_of p).prefix_len ≤ 16256 → length (frame_of p).prefix ≡ (frame_of p).prefix_len
unfolding frame_of prefix_of
length-prefix p l h = go (dec_le (le 2 p 46) 16)
  where
    n : ℕ
    n = le 2 p 46

    go : Dec (le 2 p 46 ≤ 16) → length (pick (leb n 16) (part n p 48) (part n p (16352 - n))) ≡ n
    go (yes k) = rw (le-leb n 16 k) (length-part-le n p 48 (omega arith))
    go (no k) = rw (lt-leb n 16 (omega arith)) (length-part-le n p (16352 - n) (omega arith))

-- ---- the prefix of a key between the fences
module _ (w : ℕ) (p : List ℕ) (size : length p ≡ 16384) (F : Fit w (view_of w p)) where
  pub frame-rules : Rules (frame_of p) (numbers_of p)
  unfolding view_of
  frame-rules = F.r1

  pub prefix-length : length (frame_of p).prefix ≡ (frame_of p).prefix_len
  prefix-length = length-prefix p size frame-rules.prefix_most

  pub take-prefix : (k : List ℕ) → inside (frame_of p) k ≡ true → take (frame_of p).prefix_len k ≡ (frame_of p).prefix
  unfolding inside view_of u5
  take-prefix k e =
      let b = both_parts (not (less k (pre ++ (frame_of p).lower_suffix))) (pick (upper_empty (frame_of p)) true (less k (pre ++ (frame_of p).upper_suffix))) e in
      rw (← prefix-length) (go (upper_empty (frame_of p)) refl (not-true (less k (pre ++ (frame_of p).lower_suffix)) b.0) b.1)
    where
      pre : List ℕ
      pre = (frame_of p).prefix

      none : (l : List ℕ) → length l ≡ 0 → take (length l) k ≡ l
      none [] h = refl
      none (x ∷ l) h = absurd (omega arith)

      go : (b : Bool) → upper_empty (frame_of p) ≡ b → less k ((frame_of p).prefix ++ (frame_of p).lower_suffix) ≡ false
          → pick b true (less k ((frame_of p).prefix ++ (frame_of p).upper_suffix)) ≡ true → take (length (frame_of p).prefix) k ≡ (frame_of p).prefix
      go true u low high =
          let z : (frame_of p).prefix_len ≡ 0 = eqb-true (frame_of p).prefix_len 0 (rw u at F.r5) in
          none (frame_of p).prefix (omega (arith, prefix-length))
      go false u low high = fenced-prefix (frame_of p).prefix (frame_of p).lower_suffix k (frame_of p).upper_suffix low high

  pub has-prefix : (k : List ℕ) → inside (frame_of p) k ≡ true → has_prefix (frame_of p) k ≡ true
  unfolding has_prefix
  has-prefix k e = eq_same_list (take (frame_of p).prefix_len k) (frame_of p).prefix (take-prefix k e)

  pub whole-key : (k : List ℕ) → inside (frame_of p) k ≡ true → (frame_of p).prefix ++ probe_suffix (frame_of p) k ≡ k
  whole-key k e = rw (← take-prefix k e) (take-append-drop (frame_of p).prefix_len k)

-- ---- one record
pub record Takes (w : ℕ) (p : List ℕ) (e : Entry) : Type 0 where
  pub size : length p ≡ 16384
  pub bytes : IsBytes p
  pub width : is_width w ≡ true
  pub fit : Fit w (view_of w p)
  pub key_bytes : IsBytes e.key
  pub value : fits_width w e.value ≡ true
  pub fenced : inside (frame_of p) e.key ≡ true
  pub absent : all (differ e.key) (keys (listing w p)) ≡ true
  pub room : need w (length (probe_suffix (frame_of p) e.key)) ≤ free (numbers_of p)

module _ (w : ℕ) (p : List ℕ) (e : Entry) (T : Takes w p e) where
  abbrev s : List ℕ
  s = probe_suffix (frame_of p) e.key

  abbrev i : ℕ
  i = scan false e.key (listing w p)

  rules : Rules (frame_of p) (numbers_of p)
  rules = frame-rules w p T.size T.fit

  whole : (frame_of p).prefix ++ s ≡ e.key
  whole = whole-key w p T.size T.fit e.key T.fenced

  roomy : (numbers_of p).start + 8 + payload_bytes w (length s) ≤ (numbers_of p).end
  unfolding need
  roomy = omega (arith, T.room)

  key-length : length e.key ≤ 65535
  key-length =
      omega (
        arith,
        ap length whole,
        length-append (frame_of p).prefix s,
        prefix-length w p T.size T.fit,
        le-body_bytes 4 (length s),
        roomy,
        rules.top,
        rules.prefix_most,
      )

  judged : {A : Type 0} (a : A) (r : Rattle.paper.specs.declared.refusal.Refusal.Refusal → A) → judge (insert_checks w p e.key e.value) a r ≡ a
  unfolding insert_checks judge fit_of
  judged a r =
      let x1 = eq-eqb (length p) 16384 T.size in
      let x3 = le-leb (length e.key) 65535 key-length in
      let x5 = fit_back w (view_of w p) T.fit in
      let x8 = has-prefix w p T.size T.fit e.key T.fenced in
      let x13 = le-leb (need w (length s)) (free (numbers_of p)) T.room in
      rw (x1, T.width, x3, x5, T.value, x8, T.fenced, T.absent, x13)

  -- the insert is accepted
  pub insert-accepted : insert_of w p e.key e.value ≡ Ok i
  unfolding insert_of
  insert-accepted = judged (Ok i) Err

  insert-page : insert_page w p e.key e.value ≡ inserted w p i s e.value
  unfolding insert_page
  insert-page = judged (inserted w p i s e.value) (λ r. p)

  place-le : i ≤ (numbers_of p).count
  place-le =
      omega (
        arith,
        up_to_le (λ y. passed false (order y e.key)) (keys (listing w p)),
        length-map (listing w p) (λ (x : Entry). x.key),
        length-listing w p,
      )

  room : Room w p i s e.value
  unfolding fits_width
  room =
      record {
        size = T.size;
        bytes = T.bytes;
        start = rules.start;
        slot = place-le;
        top = rules.top;
        room = omega (arith, roomy, rules.start);
        effective = rules.high;
        suffix = drop-bytes (frame_of p).prefix_len e.key T.key_bytes;
        value = ltb-true e.value (256 ^ w) T.value;
      }

  at-spot : i ≡ spot ((frame_of p).prefix ++ s) (keys_of (view_of w p))
  at-spot = rw (whole, keys-listing w p)

  -- the page after it
  pub view-after : view_of w (insert_page w p e.key e.value) ≡ insert_view w (view_of w p) (spot ((frame_of p).prefix ++ s) (keys_of (view_of w p))) s e.value
  view-after = rw (insert-page, ← at-spot) (insert-square w p i s e.value room (placed w p T.fit))

  pub size-after : length (insert_page w p e.key e.value) ≡ 16384
  size-after = rw insert-page (length_inserted w p i s e.value room (placed w p T.fit))

  pub bytes_after : IsBytes (insert_page w p e.key e.value)
  bytes_after = rw insert-page (inserted-bytes w p i s e.value room (placed w p T.fit))

  goes : Goes w (view_of w p) s
  unfolding view_of
  goes = record { inside = rw whole T.fenced; absent = rw whole (rw keys-listing at T.absent); room = roomy }

  -- is fit
  pub fit-after : Fit w (view_of w (insert_page w p e.key e.value))
  fit-after = rw view-after fit-view
    where
      fit-view : Fit w (insert_view w (view_of w p) (spot ((frame_of p).prefix ++ s) (keys_of (view_of w p))) s e.value)
      fit-view = unfold view_of in insert-fit w (view_of w p) s e.value T.fit goes (length-rows w p)

  -- and lists the record
  pub listing-after : listing w (insert_page w p e.key e.value) ≡ file e (listing w p)
  listing-after = shown ∙ sym (file_ins e (listing w p))
    where
      entry : entry_of (frame_of p) (row_for s e.value (more w (numbers_of p) (length s)).end) ≡ e
      entry = unfold row_for in λ k. record { key = whole k; value = e.value }

      here : map (entry_of (insert_view w (view_of w p) i s e.value).frame) (insert_view w (view_of w p) i s e.value).rows ≡ ins i e (listing w p)
      here = unfold insert_view refreshed listing view_of in
          map-ins (entry_of (frame_of p)) i (row_for s e.value (more w (numbers_of p) (length s)).end) (view_of w p).rows
          ∙ ap (λ (x : Entry). ins i x (map (entry_of (frame_of p)) (view_of w p).rows)) entry

      shown : listing w (insert_page w p e.key e.value) ≡ ins i e (listing w p)
      shown = unfold listing in rw (view-after, ← at-spot) here
