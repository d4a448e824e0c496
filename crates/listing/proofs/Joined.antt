-- The pieces that a receiver takes, one after the other, are the paper's text; and what a fit page gives the functions that list it. Assumes nothing.
use Rattle.std.proofs.Common.{◌≡◌, refl, sym, ap, ◌∙◌, Bool, true, false, List, [], ◌∷◌, ◌++◌, map, append-nil, append_assoc, ℕ, zero, suc, ◌+◌, ◌*◌, ◌-◌, ◌≤◌, ◌<◌, zero-add, add-zero, suc-add, arith, eq-eqb, ne_eqb, length, get_or, take, drop, length-drop, take_all}
use Rattle.std.proofs.lemmas.Bool.{both_ways}
use native.Mathlib.Decide.{dec_le}
use Rattle.paper.specs.Lists.{tab}
use Rattle.paper.specs.Page.{slot_at, slot_of, prefix_of, suffix_of, value_at, body_bytes, Row, row_of, Frame, frame_of, numbers_of, header_of, view_of}
use Rattle.paper.specs.Listing.{entry_of, listing}
use Rattle.paper.specs.Refusals.{judge}
use Rattle.paper.specs.Calls.{is_width, layout_verdict, fit_verdict}
use Rattle.paper.specs.declared.page.Header.{Header}
use Rattle.paper.specs.declared.page.Slot.{Slot}
use Rattle.paper.specs.Verdicts.{layout_of, fit_of}
use Rattle.octets.specs.Bytes.{le}
use Rattle.paper.specs.Printed.{verdict_line, space_line, entry_line, entry_lines, page_text, refused_line, printed}
use Rattle.paper.proofs.Fit.{Fit, fit, length-rows, placed, effective-used}
use Rattle.listing.proofs.Writing.{adds_first, adds-then, adds-size}
use Rattle.listing.proofs.Going.{gone-none}
use Rattle.listing.specs.Line.{Line, Adds}
use Rattle.listing.specs.Texts.{verdict_text, space_text, line_text, lines_text}
use Rattle.listing.specs.Pieces.{Listable}
use Rattle.std.specs.Result.{result_unwrap_or}

-- ---- the entries' lines
pub lines-begin : (w : ℕ) (p : List ℕ) (n : ℕ) → lines_text w p n 0 0 ≡ []
unfolding lines_text
lines-begin w p n = refl

module _ (w : ℕ) (p : List ℕ) (n : ℕ) where
  lines_append : (i a b : ℕ) → lines_text w p n i (a + b) ≡ lines_text w p n i a ++ lines_text w p n (i + a) b
  unfolding lines_text
  lines_append i zero b = rw (zero-add b, add-zero i)
  lines_append i (suc a) b =
      let e : i + suc a ≡ suc i + a = omega arith in
      rw (suc-add a b, lines_append (suc i) a b, e) (sym (append_assoc (line_text w p n i (slot_of p i)) (lines_text w p n (suc i) a) (lines_text w p n (suc i + a) b)))

  -- a line more
  pub lines-more : (i : ℕ) (s : Slot) → s ≡ slot_at p (96 + 8 * i) → lines_text w p n 0 i ++ line_text w p n i s ≡ lines_text w p n 0 (i + 1)
  unfolding lines_text slot_of
  lines-more i s e = rw (lines_append 0 i 1, zero-add i, e, append-nil)

  -- which is that of the key and the value that code reads
  pub line_is : (i : ℕ) (s : Slot) (k : List ℕ) (v : ℕ) → k ≡ prefix_of p n ++ suffix_of p s → v ≡ le w p (value_at s) → entry_line i (record { key = k; value = v }) ≡ line_text w p n i s
  unfolding line_text
  line_is i s k v e f = rw (e, f)

  -- those that are left
  pub lines-rest : (i count : ℕ) → i ≤ count → lines_text w p n 0 i ++ lines_text w p n i (count - i) ≡ lines_text w p n 0 count
  lines-rest i count h =
      let e : count ≡ i + (count - i) = omega arith in
      sym (ap (λ m. lines_text w p n 0 m) e ∙ (lines_append 0 i (count - i) ∙ ap (λ m. lines_text w p n 0 i ++ lines_text w p n m (count - i)) (zero-add i)))

-- ---- the paper's lines
lines_are : (w : ℕ) (p : List ℕ) (f : Frame) (n : ℕ) → f.prefix ≡ prefix_of p n → (k i : ℕ) (g : ℕ → Row) → ((j : ℕ) → g j ≡ row_of w p (slot_of p (i + j)))
    → entry_lines i (map (entry_of f) (tab k g)) ≡ lines_text w p n i k
unfolding tab entry_lines lines_text line_text row_of
lines_are w p f n e zero i g h = refl
lines_are w p f n e (suc k) i g h =
    let rest = lines_are w p f n e k (suc i) (λ j. g (suc j)) (λ j. h (suc j) ∙ ap (λ m. row_of w p (slot_of p m)) (omega arith)) in
    rw (rest, h 0, add-zero i, e)

listing_lines : (w : ℕ) (p : List ℕ) → entry_lines 0 (listing w p) ≡ lines_text w p (header_of p).prefix_len 0 (header_of p).count
unfolding listing view_of header_of
listing_lines w p =
    lines_are w p (frame_of p) (frame_of p).prefix_len (prefix-is p) (numbers_of p).count 0 (λ i. row_of w p (slot_of p i)) (λ j. rw (zero-add j))
  where
    prefix-is : (p : List ℕ) → (frame_of p).prefix ≡ prefix_of p (frame_of p).prefix_len
    prefix-is p = unfold frame_of in refl

space_is : (p : List ℕ) → space_line p ≡ space_text (header_of p)
unfolding space_line space_text header_of
space_is p = refl

verdict_is : (w : ℕ) (p : List ℕ) → verdict_line w p ≡ verdict_text (layout_of w p) (fit_of w p)
unfolding verdict_line verdict_text
verdict_is w p = refl

-- ---- what the functions ask
pub row_held : (w : ℕ) (p : List ℕ) (n m : ℕ) → Listable w p n m → (i : ℕ) (s : Slot) → i < n → s ≡ slot_at p (96 + 8 * i) → s.offset + (body_bytes 4 s.len + w) ≤ 16256
unfolding slot_of
row_held w p n m L i s h e = rw e (L.rows i h)

width-most : (w : ℕ) → is_width w ≡ true → w ≤ 8
unfolding is_width
width-most w e = go (dec_le w 8)
  where
    go : Dec (w ≤ 8) → w ≤ 8
    go (yes h) = h
    go (no h) = absurd (both_ways false refl (rw (ne_eqb w 0 (λ k. omega arith), ne_eqb w 1 (λ k. omega arith), ne_eqb w 8 (λ k. omega arith)) at e))

pub le-zero : (n : ℕ) → n ≤ 0 → n ≡ 0
le-zero n h = omega arith

-- a page of the right length at a known width is refused no verdict
module _ (w : ℕ) (p : List ℕ) (h : length p ≡ 16384) (k : is_width w ≡ true) where
  pub layout-given : result_unwrap_or (layout_verdict w p) false ≡ layout_of w p
  unfolding layout_verdict judge
  layout-given = rw (eq-eqb (length p) 16384 h, k)

  pub fit-given : result_unwrap_or (fit_verdict w p) 0 ≡ fit_of w p
  unfolding fit_verdict judge
  fit-given = rw (eq-eqb (length p) 16384 h, k)

module _ (w : ℕ) (p : List ℕ) (z : fit_of w p ≡ 0) where
  fits : Fit w (view_of w p)
  fits = fit w (view_of w p) (unfold fit_of in z)

  -- a fit page can be listed
  pub listable : length p ≡ 16384 → is_width w ≡ true → Listable w p (header_of p).count (header_of p).prefix_len
  unfolding header_of view_of
  listable l k =
      let R = fits.r1 in
      let P = placed w p fits in
      record {
        size = omega arith;
        width = width-most w k;
        count = omega (arith, R.start, R.order, R.top);
        prefix = P.prefix_most;
        rows = λ i h. (P.rows i h).1;
      }

  -- and its space numbers are none below zero
  pub spaced : ((header_of p).start ≤ (header_of p).end) × ((header_of p).end ≤ 16352) × ((header_of p).effective + (header_of p).end ≤ 16352 + (header_of p).start)
  unfolding header_of view_of
  spaced = let R = fits.r1 in (R.order, omega (arith, R.top), effective-used w (view_of w p) fits (length-rows w p))

-- ---- a page's text
module _ (w : ℕ) (p : List ℕ) (layout : Bool) (f : ℕ) (l : layout ≡ layout_of w p) (e : f ≡ fit_of w p) where
  pub unfit_is : 0 < f → verdict_text layout f ≡ page_text w p
  unfolding page_text
  unfit_is h = rw (ne_eqb (fit_of w p) 0 (λ q. omega arith), append-nil, verdict_is w p, ← l, ← e)

  pub fit_is : (h : Header) (t u v : Line) (k : List ℕ) → f ≤ 0 → h ≡ header_of p → t.text ≡ [] → Adds t (verdict_text layout f) u → Adds u (space_text h) v → k ≡ v.text
      → k ++ lines_text w p h.prefix_len 0 h.count ≡ page_text w p
  unfolding page_text
  fit_is h t u v k z q x g y r =
      let front = r ∙ adds_first t v _ x (adds-then t u v _ _ g y) in
      rw (front, append_assoc (verdict_text layout f) (space_text h) (lines_text w p h.prefix_len 0 h.count))
      (rw (eq-eqb (fit_of w p) 0 (omega arith), verdict_is w p, space_is p, listing_lines w p, ← q, ← l, ← e))

-- ---- what an input prints: a refusal, or its page
pub prints-length : (l : List ℕ) → (length l ≡ 16385 → ⊥) → refused_line 1 ≡ printed l
unfolding printed
prints-length [] h = refl
prints-length (w ∷ p) h = rw (ne_eqb (length p) 16384 (λ e. h (omega arith)))

pub prints-width : (l : List ℕ) (b : Bool) → length l ≡ 16385 → b ≡ is_width (get_or l 0 0) → b ≡ false → refused_line 2 ≡ printed l
unfolding printed
prints-width [] b h e f = absurd (omega arith)
prints-width (w ∷ p) b h e f = rw (eq-eqb (length p) 16384 (omega arith), ← e, f)

pub prints-page : (l : List ℕ) (b : Bool) → length l ≡ 16385 → b ≡ is_width (get_or l 0 0) → b ≡ true → page_text (get_or l 0 0) (take (length l - 1) (drop 1 l)) ≡ printed l
unfolding printed
prints-page [] b h e f = absurd (omega arith)
prints-page (w ∷ p) b h e f =
    let n : length (w ∷ p) - 1 ≡ length p = omega arith in
    rw (eq-eqb (length p) 16384 (omega arith), ← e, f, n, take_all (length p) p (omega arith))

pub page-length : (l : List ℕ) → length l ≡ 16385 → length (take (length l - 1) (drop 1 l)) ≡ 16384
page-length l h = rw (take_all (length l - 1) (drop 1 l) (simp length-drop (omega arith)), length-drop) (omega arith)

-- ---- what the functions ask
pub ruleset inputs = (prints-length, prints-width, prints-page)

pub ruleset paged = (adds_first, adds-size, le-zero, listable, spaced, unfit_is)

pub ruleset listed = (lines-begin, gone-none)
