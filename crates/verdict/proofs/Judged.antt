-- With the page's own header, the rules by a header are the paper's: keys of a page share its prefix, so suffixes stand for them.
-- Assumes nothing.
use Rattle.std.proofs.Common.{◌≡◌, refl, ap, Bool, true, false, List, ◌∷◌, ◌++◌, map, ℕ, zero, suc, ◌+◌, ◌*◌, ◌≤◌}
use Rattle.keys.specs.Choice.{pick, both}
use Rattle.keys.specs.Keys.{same_list}
use Rattle.keys.proofs.Orders.{order-append}
use Rattle.paper.specs.Lists.{tab, all, sum, less, below_first, rising}
use Rattle.paper.specs.Page.{Row, slot_of, suffix_of, row_of, rows_of, frame_of, numbers_of, header_of, hints_of, view_of, key_of}
use Rattle.paper.specs.Space.{need}
use Rattle.paper.specs.Hints.{window, in_use, fresh}
use Rattle.paper.specs.Verdicts.{upper_empty, inside, faithful, keys_of, head_at, u4, u5, u6, u7, u8, u9, fences_rise}
use Rattle.paper.specs.declared.page.Slot.{Slot}
use Rattle.paper.proofs.Lists.{tab-ext}
use Rattle.paper.proofs.Stages.{hint_slot, head_at-rows}
use Rattle.hint.proofs.Refreshed.{used-many}
use Rattle.search.specs.Fence.{inside_by}
use Rattle.verdict.specs.Tally.{suffix_at, tally_of, fences_rise_with, fences_faithful_with, fences_fit_with, effective_with, hints_fresh_with}

-- ---- lists that are tabulated
module _ {A B : Type 0} where
  map-tab : (g : A → B) (n : ℕ) (f : ℕ → A) → map g (tab n f) ≡ tab n (λ i. g (f i))
  unfolding tab
  map-tab g zero f = refl
  map-tab g (suc n) f = ap (λ (l : List B). g (f 0) ∷ l) (map-tab g n (λ j. f (suc j)))

  all_tab : (a : A → Bool) (b : B → Bool) (n : ℕ) (f : ℕ → A) (g : ℕ → B) → ((i : ℕ) → a (f i) ≡ b (g i)) → all a (tab n f) ≡ all b (tab n g)
  unfolding all tab
  all_tab a b zero f g h = refl
  all_tab a b (suc n) f g h = rw (h 0, all_tab a b n (λ j. f (suc j)) (λ j. g (suc j)) (λ i. h (suc i)))

  sum-tab : (a : A → ℕ) (b : B → ℕ) (n : ℕ) (f : ℕ → A) (g : ℕ → B) → ((i : ℕ) → a (f i) ≡ b (g i)) → sum a (tab n f) ≡ sum b (tab n g)
  unfolding sum tab
  sum-tab a b zero f g h = refl
  sum-tab a b (suc n) f g h = rw (h 0, sum-tab a b n (λ j. f (suc j)) (λ j. g (suc j)) (λ i. h (suc i)))

less-append : (a x y : List ℕ) → less (a ++ x) (a ++ y) ≡ less x y
unfolding less
less-append a x y = rw (order-append a x y)

rising-append : (a : List ℕ) (n : ℕ) (f : ℕ → List ℕ) → rising (tab n (λ i. a ++ f i)) ≡ rising (tab n f)
unfolding rising below_first tab
rising-append a zero f = refl
rising-append a (suc zero) f = refl
rising-append a (suc (suc n)) f = rw (less-append a (f 0) (f 1), rising-append a (suc n) (λ j. f (suc j)))

-- ---- the rules
module _ (w : ℕ) (p : List ℕ) where
  abbrev pre : List ℕ
  pre = (frame_of p).prefix

  keys-are : keys_of (view_of w p) ≡ tab (numbers_of p).count (λ i. pre ++ suffix_at p i)
  unfolding view_of row_of
  keys-are = map-tab (key_of (frame_of p)) (numbers_of p).count (λ i. row_of w p (slot_of p i))

  inside_is : (s : List ℕ) → inside (frame_of p) (pre ++ s) ≡ inside_by p (header_of p) s
  unfolding inside upper_empty inside_by header_of frame_of
  inside_is s = rw (less-append pre s (suffix_of p (frame_of p).lower), less-append pre s (suffix_of p (frame_of p).upper))

  pub u4-is : u4 (view_of w p) ≡ both (fences_faithful_with p (header_of p)) (tally_of w p (header_of p) (header_of p).count).faithful
  unfolding u4 view_of row_of fences_faithful_with tally_of header_of frame_of
  u4-is =
      ap (both (fences_faithful_with p (header_of p)))
      (all_tab (λ (r : Row). faithful r.slot r.suffix) (λ s. faithful s (suffix_of p s)) (numbers_of p).count (λ i. row_of w p (slot_of p i)) (slot_of p) (λ i. refl))

  pub u5-is : u5 (view_of w p) ≡ fences_fit_with p (header_of p)
  unfolding u5 upper_empty view_of fences_fit_with header_of frame_of
  u5-is = rw (less-append pre (suffix_of p (frame_of p).lower) (suffix_of p (frame_of p).upper))

  pub u6-is : u6 (view_of w p) ≡ (tally_of w p (header_of p) (header_of p).count).inside
  unfolding u6 view_of tally_of header_of
  u6-is = rw keys-are (all_tab (inside (frame_of p)) (inside_by p (header_of p)) (numbers_of p).count (λ i. pre ++ suffix_at p i) (suffix_at p) (λ i. inside_is (suffix_at p i)))

  pub u7-is : u7 (view_of w p) ≡ (tally_of w p (header_of p) (header_of p).count).rising
  unfolding u7 tally_of header_of
  u7-is = rw keys-are (rising-append pre (numbers_of p).count (suffix_at p))

  pub u8_is : u8 w (view_of w p) ≡ effective_with (header_of p) (tally_of w p (header_of p) (header_of p).count).needs
  unfolding u8 view_of row_of effective_with tally_of header_of
  u8_is =
      rw (sum-tab (λ (r : Row). need w r.slot.len) (λ (s : Slot). need w s.len) (numbers_of p).count (λ i. row_of w p (slot_of p i)) (slot_of p) (λ i. refl))

  pub u9-is : u9 (view_of w p) ≡ hints_fresh_with p (header_of p)
  unfolding u9 view_of hints_fresh_with header_of
  u9-is = go (in_use (frame_of p).flag (numbers_of p).count) refl
    where
      heads : 64 ≤ (numbers_of p).count → fresh (numbers_of p).count (head_at (rows_of w p (numbers_of p).count)) ≡ fresh (numbers_of p).count (λ i. (slot_of p i).head)
      heads m =
          let n = (numbers_of p).count in
          unfold fresh in
          tab-ext 8 (λ j. head_at (rows_of w p n) ((j + 1) * window n)) (λ j. (slot_of p ((j + 1) * window n)).head)
          (λ j l. head_at-rows w p n ((j + 1) * window n) (hint_slot n j m l))

      go : (t : Bool) → in_use (frame_of p).flag (numbers_of p).count ≡ t
          → pick t (same_list (hints_of p) (fresh (numbers_of p).count (head_at (rows_of w p (numbers_of p).count)))) true
          ≡ pick t (same_list (hints_of p) (fresh (numbers_of p).count (λ i. (slot_of p i).head))) true
      go true e = ap (same_list (hints_of p)) (heads (used-many (frame_of p).flag (numbers_of p).count e))
      go false e = refl

  pub rise-is : fences_rise (view_of w p).frame ≡ fences_rise_with p (header_of p)
  unfolding fences_rise upper_empty view_of fences_rise_with header_of frame_of
  rise-is = rw (less-append pre (suffix_of p (frame_of p).lower) (suffix_of p (frame_of p).upper))
