-- A value that is set leaves a fit page fit, since no rule looks at values; and the listing is the old one with the new value in its place.
-- Assumes nothing.
use Rattle.std.proofs.Common.{◌≡◌, refl, sym, ap, ◌∙◌, true, List, [], ◌∷◌, ◌++◌, map, ℕ, zero, suc, ◌+◌, ◌*◌, ◌^◌, ◌<◌, arith, eq-eqb, length, get_or}
use Rattle.octets.specs.Bytes.{IsBytes}
use Rattle.keys.specs.Choice.{both}
use Rattle.paper.specs.Lists.{swap, all, sum}
use Rattle.paper.specs.Page.{slot_of, suffix_of, Row, row_of, frame_of, numbers_of, View, view_of, key_of}
use Rattle.paper.specs.Space.{need, fence_bytes}
use Rattle.paper.specs.Hints.{window, fresh}
use Rattle.paper.specs.Verdicts.{payload, keys_of, faithful, head_at, u2, u3, u4, u5, u6, u7, u8, u9}
use Rattle.paper.specs.Listing.{Entry, entry_of, listing, keys}
use Rattle.paper.specs.Edits.{value_set}
use Rattle.paper.specs.Views.{no_row, set_row, set_view}
use Rattle.paper.proofs.Lists.{both_parts, both_yes, all-at, getD-tab, tab-ext, map-swap}
use Rattle.paper.proofs.Swaps.{all-swap, sum-swap, map-swap-same}
use Rattle.paper.proofs.Fit.{Fit, effective_is, length-rows}
use Rattle.paper.proofs.Filing.{keys-listing}
use Rattle.paper.proofs.Searching.{key-at}
use Rattle.paper.proofs.Setting.{set-square}

-- heads do not see a row with the head of the old one
head_at_swap : (i : ℕ) (x : Row) (l : List Row) → x.slot.head ≡ (get_or l i no_row).slot.head → (j : ℕ) → head_at (swap i x l) j ≡ head_at l j
unfolding head_at swap
head_at_swap i x [] e j = refl
head_at_swap zero x (y ∷ l) e zero = e
head_at_swap zero x (y ∷ l) e (suc j) = refl
head_at_swap (suc i) x (y ∷ l) e zero = refl
head_at_swap (suc i) x (y ∷ l) e (suc j) = head_at_swap i x l e j

module _ (w : ℕ) (N : View) (i v : ℕ) (F : Fit w N) (h : i < length N.rows) where
  abbrev r : Row
  r = get_or N.rows i no_row

  abbrev rows : List Row
  rows = swap i (set_row r v) N.rows

  payloads : map (payload w) rows ≡ map (payload w) N.rows
  unfolding payload set_row
  payloads = map-swap-same (payload w) i (set_row r v) no_row N.rows refl

  pub set-keys : keys_of (set_view N i v) ≡ keys_of N
  unfolding set_view set_row
  set-keys = map-swap-same (key_of N.frame) i (set_row r v) no_row N.rows refl

  heads : fresh N.numbers.count (head_at rows) ≡ fresh N.numbers.count (head_at N.rows)
  unfolding fresh set_row
  heads =
      tab-ext 8 (λ j. head_at rows ((j + 1) * window N.numbers.count)) (λ j. head_at N.rows ((j + 1) * window N.numbers.count))
      (λ j l. head_at_swap i (set_row r v) N.rows refl ((j + 1) * window N.numbers.count))

  u4-new : u4 (set_view N i v) ≡ true
  unfolding u4 set_view set_row
  u4-new =
      let fences = both (faithful N.frame.lower N.frame.lower_suffix) (faithful N.frame.upper N.frame.upper_suffix) in
      let entries = all (λ (x : Row). faithful x.slot x.suffix) N.rows in
      let old = both_parts fences entries F.r4 in
      both_yes fences (all (λ (x : Row). faithful x.slot x.suffix) rows) old.0
      (all-swap (λ (x : Row). faithful x.slot x.suffix) i (set_row r v) N.rows (all-at (λ (x : Row). faithful x.slot x.suffix) N.rows old.1 i no_row h) old.1)

  u8-new : u8 w (set_view N i v) ≡ true
  unfolding u8 set_view set_row
  u8-new =
      let fences = fence_bytes N.frame.prefix_len N.frame.lower.len N.frame.upper.len in
      eq-eqb N.numbers.effective (96 + fences + sum (λ (x : Row). need w x.slot.len) rows)
      (omega (arith, effective_is w N F.r8, sum-swap (λ (x : Row). need w x.slot.len) i (set_row r v) no_row N.rows h))

  -- every rule holds again
  pub set-fit : Fit w (set_view N i v)
  unfolding set_view u2 u3 u5 u6 u7 u9
  set-fit =
      record {
        r1 = F.r1;
        r2 = rw payloads F.r2;
        r3 = rw payloads F.r3;
        r4 = u4-new;
        r5 = F.r5;
        r6 = rw set-keys F.r6;
        r7 = rw set-keys F.r7;
        r8 = u8-new;
        r9 = rw heads F.r9;
      }

-- ---- on the page
module _ (w : ℕ) (p : List ℕ) (i v : ℕ) (size : length p ≡ 16384) (b : IsBytes p) (F : Fit w (view_of w p)) (h : i < (numbers_of p).count) (hv : v < 256 ^ w) where
  pub set-fits : Fit w (view_of w (value_set w p i v))
  set-fits = rw (set-square w p i v size F h hv) (set-fit w (view_of w p) i v F (rw (length-rows w p) h))

  -- the listing has the new value in its place
  pub set-listing : listing w (value_set w p i v) ≡ swap i (record { key = get_or (keys (listing w p)) i []; value = v }) (listing w p)
  set-listing = rw (key-at w p size b F i h []) shown
    where
      entry : entry_of (frame_of p) (set_row (get_or (view_of w p).rows i no_row) v) ≡ record { key = (frame_of p).prefix ++ suffix_of p (slot_of p i); value = v }
      entry = unfold set_row view_of row_of in rw (getD-tab (numbers_of p).count (λ j. row_of w p (slot_of p j)) i no_row h)

      here : map (entry_of (set_view (view_of w p) i v).frame) (set_view (view_of w p) i v).rows ≡ swap i (record { key = (frame_of p).prefix ++ suffix_of p (slot_of p i); value = v }) (listing w p)
      here = unfold set_view listing view_of in
          map-swap (entry_of (frame_of p)) i (set_row (get_or (view_of w p).rows i no_row) v) (view_of w p).rows
          ∙ ap (λ (e : Entry). swap i e (map (entry_of (frame_of p)) (view_of w p).rows)) entry

      shown : listing w (value_set w p i v) ≡ swap i (record { key = (frame_of p).prefix ++ suffix_of p (slot_of p i); value = v }) (listing w p)
      shown = unfold listing in rw (set-square w p i v size F h hv) here

  -- and the same keys
  pub set-keys-listing : keys (listing w (value_set w p i v)) ≡ keys (listing w p)
  set-keys-listing =
      keys-listing w (value_set w p i v)
      ∙ ap keys_of (set-square w p i v size F h hv)
      ∙ set-keys w (view_of w p) i v F (rw (length-rows w p) h)
      ∙ sym (keys-listing w p)
