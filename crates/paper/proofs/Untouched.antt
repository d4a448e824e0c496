-- What an edit of one slot's payload leaves as it was. A piece that lies within that payload is apart from every other piece by U3, and one
-- below the end is apart from all: so a page that differs from a fit page only there has the same frame and the same other rows. Assumes
-- nothing.
use Rattle.std.proofs.Common.{◌≡◌, ◌∙◌, true, ◌⊎◌, inl, inr, ⊎_elim, List, ◌++◌, map, ℕ, ◌+◌, ◌≤◌, ◌<◌, min, max, arith, leb-true, length, get_or, length-append, get_or-append-add}
use native.Mathlib.Decide.{dec_lt}
use lib.ListN.{length-map, get_or-append, get_or-map}
use Rattle.paper.specs.Lists.{all}
use Rattle.paper.specs.Page.{slot_of, suffix_of, value_at, row_of, frame_of, numbers_of, View, view_of}
use Rattle.paper.specs.Verdicts.{Piece, slot_payload, payload, fence_piece, prefix_piece, frame_pieces, apart, u2, u3}
use Rattle.paper.specs.Views.{no_row}
use Rattle.paper.specs.declared.page.Slot.{Slot}
use Rattle.paper.proofs.Lists.{all-weaken, getD-tab}
use Rattle.paper.proofs.Swaps.{out, all-out, out_at, out-pairs}
use Rattle.paper.proofs.Same.{Same, same-le, body_bytes_long, suffix_in, prefix_in}
use Rattle.paper.proofs.Stages.{frame-parts}
use Rattle.paper.proofs.Fit.{Fit, apart_sym, apart-part, new_apart, length-rows, placed}

-- ---- bytes
-- q holds what p holds from byte d on, but for the piece x
abbrev pub Save : List ℕ → List ℕ → ℕ → Piece → Type 0
Save q p d x = (j : ℕ) → d ≤ j → (j < 96 + x.lo) ⊎ (96 + x.hi ≤ j) → get_or q j 0 ≡ get_or p j 0

-- a piece apart from it is the same
pub save_apart : (q p : List ℕ) (d : ℕ) (x y : Piece) → Save q p d x → apart x y ≡ true → d ≤ 96 + y.lo → Same q p (96 + y.lo) (96 + y.hi)
unfolding apart
save_apart q p d x y S e h j l m =
    let f = leb-true (min x.hi y.hi) (max x.lo y.lo) e in
    elim (dec_lt j (96 + x.lo)) [ yes k ↦ S j (omega arith) (inl k) | no k ↦ S j (omega arith) (inr (omega arith)) ]

-- a row whose payload is the same
pub row_in : (w : ℕ) (q p : List ℕ) → length q ≡ length p → (s : Slot) → Same q p (96 + (slot_payload w s).lo) (96 + (slot_payload w s).hi) → row_of w q s ≡ row_of w p s
unfolding row_of
row_in w q p l s h =
    rw (
      suffix_in q p l s (λ d j a b. h j a (omega (arith, body_bytes_long 4 s.len d))),
      same-le q p (96 + (slot_payload w s).lo) (96 + (slot_payload w s).hi) h w (value_at s) (omega arith) (omega arith),
    )

-- ---- pieces
-- all pieces of a page: those of the rows, then those of the frame
abbrev pub pieces : ℕ → View → List Piece
pieces w N = map (payload w) N.rows ++ frame_pieces N.frame

-- x is apart from all of them but that of row i
abbrev pub Clear : ℕ → View → ℕ → Piece → Type 0
Clear w N i x = all (apart x) (out i (pieces w N)) ≡ true

module _ (w : ℕ) (N : View) where
  pub piece-at : (j : ℕ) → j < length N.rows → get_or (pieces w N) j (payload w no_row) ≡ payload w (get_or N.rows j no_row)
  piece-at j h =
      get_or-append (map (payload w) N.rows) (frame_pieces N.frame) (payload w no_row) j (rw (length-map N.rows (payload w)) h)
      ∙ get_or-map (payload w) N.rows j no_row

  pub length-pieces : length (pieces w N) ≡ length N.rows + 3
  length-pieces = length-append (map (payload w) N.rows) (frame_pieces N.frame) ∙ rw (length-map N.rows (payload w))

  -- what lies within the payload of row i is clear
  pub clear_in : Fit w N → (i : ℕ) → i < length N.rows → (x : Piece)
      → (payload w (get_or N.rows i no_row)).lo ≤ x.lo → x.hi ≤ (payload w (get_or N.rows i no_row)).hi → Clear w N i x
  unfolding u3
  clear_in F i h x a b =
      let l : i < length (pieces w N) = omega (arith, length-pieces) in
      let own = (out-pairs apart apart_sym i (pieces w N) (payload w no_row) l F.r3).0 in
      all-weaken (apart (payload w (get_or N.rows i no_row))) (apart x) (out i (pieces w N))
      (λ y. apart-part x (payload w (get_or N.rows i no_row)) y a b) (rw (piece-at i h) at own)

  -- and so is what lies below the end
  pub clear-below : Fit w N → (i : ℕ) (x : Piece) → x.hi ≤ N.numbers.end → Clear w N i x
  unfolding u2
  clear-below F i x h = all-out (apart x) i (pieces w N) (new_apart N.frame N.numbers F.r1 x h (map (payload w) N.rows) F.r2)

  module _ (i : ℕ) (x : Piece) (c : Clear w N i x) where
    pub clear-row : (j : ℕ) → j < length N.rows → (j ≡ i → ⊥) → apart x (payload w (get_or N.rows j no_row)) ≡ true
    clear-row j h k = rw (piece-at j h) at (out_at (apart x) i (pieces w N) c j (payload w no_row) (omega (arith, length-pieces)) k)

    clear-frame : i < length N.rows → (k : ℕ) → k < 3 → apart x (get_or (frame_pieces N.frame) k (payload w no_row)) ≡ true
    clear-frame h k m =
        let len : length (map (payload w) N.rows) ≡ length N.rows = length-map N.rows (payload w) in
        rw (get_or-append-add (map (payload w) N.rows) (frame_pieces N.frame) k (payload w no_row)) at
        (out_at (apart x) i (pieces w N) c (length (map (payload w) N.rows) + k) (payload w no_row) (omega (arith, length-pieces)) (λ q. omega arith))

-- the payload of a row is that of its slot
pub row_piece : (w : ℕ) (p : List ℕ) (j : ℕ) → j < (numbers_of p).count → payload w (get_or (view_of w p).rows j no_row) ≡ slot_payload w (slot_of p j)
unfolding view_of payload row_of
row_piece w p j h = rw (getD-tab (numbers_of p).count (λ i. row_of w p (slot_of p i)) j no_row h)

-- ---- a page that differs from a fit page only in a clear piece
module _ (w : ℕ) (q p : List ℕ) (l : length q ≡ length p) (F : Fit w (view_of w p)) (i : ℕ) (h : i < (numbers_of p).count) (x : Piece) (c : Clear w (view_of w p) i x) (S : Save q p (96 + (numbers_of p).end) x) where
  there : i < length (view_of w p).rows
  there = rw (length-rows w p) h

  -- has the same other rows
  pub others : (j : ℕ) → j < (numbers_of p).count → (j ≡ i → ⊥) → row_of w q (slot_of p j) ≡ row_of w p (slot_of p j)
  others j m k =
      let y : apart x (slot_payload w (slot_of p j)) ≡ true = rw (row_piece w p j m) at (clear-row w (view_of w p) i x c j (rw (length-rows w p) m) k) in
      row_in w q p l (slot_of p j) (save_apart q p (96 + (numbers_of p).end) x (slot_payload w (slot_of p j)) S y (omega (arith, ((placed w p F).rows j m).0)))

  frame-clear : (k : ℕ) → k < 3 → apart x (get_or (frame_pieces (frame_of p)) k (payload w no_row)) ≡ true
  unfolding view_of
  frame-clear k m = clear-frame w (view_of w p) i x c there k m

  fence-in : (s : Slot) → (4 < s.len → (numbers_of p).end ≤ s.offset) → apart x (fence_piece s) ≡ true → suffix_of q s ≡ suffix_of p s
  unfolding fence_piece
  fence-in s e a =
      suffix_in q p l s
      (λ d j m k. save_apart q p (96 + (numbers_of p).end) x (fence_piece s) S a (omega (arith, e d)) j m (omega (arith, body_bytes_long 4 s.len d)))

  -- and the same frame, where the header's other fields are the same
  pub frame-kept : Same q p 0 2 → Same q p 8 40 → Same q p 44 64 → frame_of q ≡ frame_of p
  frame-kept a b d =
      let P = placed w p F in
      frame-parts q p l a b d (prefix_in q p l d (frame_of p).prefix_len P.prefix_most prefix)
      (λ s f.
      ⊎_elim (λ g. fence-in s (λ k. rw g (P.lower (rw g at k)).0) (rw g (frame-clear 1 (omega arith))))
      (λ g. fence-in s (λ k. rw g (P.upper (rw g at k)).0) (rw g (frame-clear 2 (omega arith))))
      f)
    where
      prefix : 16 < (frame_of p).prefix_len → Same q p (96 + (prefix_piece (frame_of p).prefix_len).lo) (96 + (prefix_piece (frame_of p).prefix_len).hi)
      prefix m = unfold prefix_piece in
          save_apart q p (96 + (numbers_of p).end) x (prefix_piece (frame_of p).prefix_len) S (frame-clear 0 (omega arith))
          (omega (arith, (placed w p F).prefix m, body_bytes_long 16 (frame_of p).prefix_len m))
