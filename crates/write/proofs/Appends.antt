-- A run appended entry by entry: the first entry of what is left of the run is the slot that code reads, it has room, and once it is
-- filed the page is ready for the rest. Assumes nothing.
use Rattle.std.proofs.Common.{◌≡◌, sym, ap, ◌∙◌, List, ◌∷◌, ℕ, suc, ◌+◌, ◌-◌, ◌≤◌, ◌<◌, arith, length, drop, drop-cons}
use Rattle.paper.specs.Lists.{sum}
use Rattle.paper.specs.Page.{row_of, frame_of, numbers_of, header_of}
use Rattle.paper.specs.Space.{need}
use Rattle.paper.specs.Hints.{refresh}
use Rattle.paper.specs.Listing.{Entry, listing}
use Rattle.paper.specs.Edits.{more, numbered, appended, run_copied}
use Rattle.paper.specs.Calls.{run, need_of_all}
use Rattle.paper.specs.declared.page.Header.{Header}
use Rattle.paper.proofs.Listed.{listed}
use Rattle.paper.proofs.Filing.{length-listing}
use Rattle.node.specs.Header.{numbers_in}
use Rattle.hint.specs.Refresh.{refresh_as}
use Rattle.write.specs.Room.{with_numbers, Room, Ready, entry_at, cut_key}
use Rattle.write.proofs.Filings.{refresh_by, file-header, file-length}

-- ---- the listing at a place
module _ (w : ℕ) (q : List ℕ) where
  listing-at : (j : ℕ) → j < (numbers_of q).count → drop j (listing w q) ≡ entry_at w q j ∷ drop (suc j) (listing w q)
  unfolding row_of
  listing-at j h =
      let x = entry_at w q j in
      drop-cons (listing w q) j x (rw length-listing h) ∙ ap (λ (e : Entry). e ∷ drop (suc j) (listing w q)) (listed w q j x h)

  -- what is left of a run up to e begins with entry j
  run_at : (j e : ℕ) → j < e → e ≤ (numbers_of q).count → run w q j (e - j) ≡ entry_at w q j ∷ run w q (j + 1) (e - (j + 1))
  run_at j e h k =
      let a : e - j ≡ suc (e - (j + 1)) = omega arith in
      let b : suc j ≡ j + 1 = omega arith in
      rw (a, listing-at j (omega arith), b)

-- ---- one entry
module _ (w : ℕ) (p : List ℕ) (h : Header) (q : List ℕ) (j e : ℕ) (lt : j < e) (le' : e ≤ (numbers_of q).count) (R : Ready w p h (run w q j (e - j))) where
  -- what the code files of it: its key without the page's prefix
  abbrev key : List ℕ
  key = cut_key h (entry_at w q j)

  -- what is left of the run behind it
  abbrev behind : List Entry
  behind = run w q (j + 1) (e - (j + 1))

  count-is : (numbers_of p).count ≡ h.count
  unfolding header_of
  count-is = ap (λ (g : Header). g.count) (sym R.header)

  prefix-is : (frame_of p).prefix_len ≡ h.prefix_len
  unfolding header_of
  prefix-is = ap (λ (g : Header). g.prefix_len) (sym R.header)

  -- its need, and that of the rest
  needs-is : need_of_all w p (run w q j (e - j)) ≡ need w (length key) + need_of_all w p behind
  unfolding need_of_all sum
  needs-is =
      let cut : length (drop (frame_of p).prefix_len (entry_at w q j).key) ≡ length key = rw prefix-is in
      ap (need_of_all w p) (run_at w q j e lt le') ∙ ap (λ (n : ℕ). need w n + need_of_all w p behind) cut

  pub turn-room : Room w p h h.count (length key)
  unfolding need
  turn-room =
      record {
        size = R.size;
        header = R.header;
        slot = omega arith;
        start = R.start;
        top = R.top;
        effective = omega (arith, R.effective);
        room = omega (arith, R.room, needs-is);
      }

  -- g and r are what the entry filed leaves
  module _ (g : Header) (r : List ℕ) (eg : g ≡ with_numbers h (more w (numbers_in h) (length key)))
      (er : r ≡ numbered w p h.count key (entry_at w q j).value) where
    header : g ≡ header_of r
    header = rw er (file-header w p h h.count key (entry_at w q j).value turn-room g eg)

    needs-same : (es : List Entry) → need_of_all w r es ≡ need_of_all w p es
    unfolding need_of_all header_of with_numbers
    needs-same es =
        let x : (frame_of r).prefix_len ≡ (frame_of p).prefix_len = ap (λ (f : Header). f.prefix_len) (sym header ∙ eg) ∙ sym prefix-is in
        rw x

    size : 16384 ≤ length r
    size = rw (er, file-length w p h h.count key (entry_at w q j).value turn-room g eg) R.size

    pub turn-ready : Ready w r g behind
    unfolding with_numbers more need
    turn-ready =
        record {
          size = size;
          header = header;
          start = rw eg (omega (arith, R.start));
          top = rw eg (omega (arith, R.top));
          effective = rw (needs-same behind, eg) (omega (arith, R.effective, needs-is));
          room = rw (needs-same behind, eg) (omega (arith, R.room, needs-is));
        }

    pub turn-page : appended w p (run w q j (e - j)) ≡ appended w r behind
    unfolding appended
    turn-page = ap (appended w p) (run_at w q j e lt le') ∙ ap (λ (x : List ℕ). appended w x behind) (rw (prefix-is, count-is) (sym er))

-- none is left
pub run_done : (w : ℕ) (p q : List ℕ) (j e : ℕ) → e ≤ j → appended w p (run w q j (e - j)) ≡ p
unfolding appended
run_done w p q j e h = let z : e - j ≡ 0 = omega arith in rw z

-- ---- then the hints
-- of no entry nothing changes
pub run_nothing : (w : ℕ) (p q : List ℕ) (a n : ℕ) → n ≡ 0 → p ≡ run_copied w p (run w q a n)
unfolding run_copied
run_nothing w p q a n e = rw e

copied : (w : ℕ) (p : List ℕ) (es : List Entry) (x : Entry) (xs : List Entry) → es ≡ x ∷ xs → refresh (appended w p es) ≡ run_copied w p es
unfolding run_copied
copied w p es x xs e = ap (λ (l : List Entry). refresh (appended w p l)) e ∙ sym (ap (run_copied w p) e)

-- r is the page with the entries, g its header
pub run-refreshed : (w : ℕ) (p q : List ℕ) (a n : ℕ) → (n ≡ 0 → ⊥) → a + n ≤ (numbers_of q).count → (g : Header) (r : List ℕ) → g ≡ header_of r → r ≡ appended w p (run w q a n)
    → refresh_as g.flag g.count r ≡ run_copied w p (run w q a n)
run-refreshed w p q a n z h g r eg er =
    let k : a + n - a ≡ n = omega arith in
    refresh_by r g eg ∙ ap refresh er ∙ copied w p (run w q a n) _ _ (rw k at (run_at w q a (a + n) (omega arith) h))
