-- The fit verdict as a record of facts, both ways; what disjoint pieces say of the space; and what lies where on a fit page. Assumes nothing.
use Rattle.std.proofs.Common.{◌≡◌, refl, ap, ◌∙◌, Bool, true, false, List, [], ◌∷◌, ◌++◌, map, ℕ, suc, ◌+◌, ◌*◌, ◌-◌, ◌≤◌, ◌<◌, min, max, arith, eqb-true, leb-true, eq-eqb, le-leb, leb, eqb, length, get_or}
use native.Mathlib.Decide.{dec_le, dec_lt}
use borrow.Author.Tests.{lt-leb}
use lib.ListN.{length-map, get_or-map}
use Rattle.keys.specs.Choice.{pick}
use Rattle.paper.specs.Lists.{every, tab, all, pairs, sum}
use Rattle.paper.specs.Page.{slot_of, Row, row_of, Frame, frame_of, Numbers, numbers_of, View, view_of}
use Rattle.paper.specs.Space.{need, fence_bytes}
use Rattle.paper.specs.Verdicts.{Piece, payload, fence_piece, prefix_piece, frame_pieces, within, apart, long_within, header_rules, u1, u2, u3, u4, u5, u6, u7, u8, u9, first_broken, fit_view}
use Rattle.paper.specs.declared.page.Slot.{Slot}
use Rattle.paper.proofs.Lists.{both_parts, both_yes, all-at, all-weaken, all_append, length-tab, getD-tab}
use Rattle.paper.proofs.Same.{Held, body_bytes_short, body_bytes_long}
use Rattle.paper.proofs.Stages.{Placed}
use Rattle.paper.proofs.Packing.{size, Lies, AllLie, packed}
use Rattle.paper.proofs.Packing.AllLie.{none, one}

-- ---- tests and facts
pick_fact : (n m : ℕ) (b : Bool) → pick (leb n m) true b ≡ true → m < n → b ≡ true
pick_fact n m b e h = rw (lt-leb n m h) at e

fact_pick : (n m : ℕ) (b : Bool) → (m < n → b ≡ true) → pick (leb n m) true b ≡ true
fact_pick n m b h = elim (dec_le n m) [ yes l ↦ rw (le-leb n m l) | no l ↦ rw (lt-leb n m (omega arith)) (h (omega arith)) ]

-- a piece lies in e..16,256
abbrev pub Lie : ℕ → Piece → Type 0
Lie e a = (e ≤ a.lo) × (a.hi ≤ 16256)

pub within_fact : (e : ℕ) (a : Piece) → within e a ≡ true → Lie e a
unfolding within
within_fact e a h = let b = both_parts (leb e a.lo) (leb a.hi 16256) h in (leb-true e a.lo b.0, leb-true a.hi 16256 b.1)

pub fact_within : (e : ℕ) (a : Piece) → Lie e a → within e a ≡ true
unfolding within
fact_within e a h = both_yes (leb e a.lo) (leb a.hi 16256) (le-leb e a.lo h.0) (le-leb a.hi 16256 h.1)

long_fact : (e : ℕ) (s : Slot) → long_within e s ≡ true → 4 < s.len → Lie e (fence_piece s)
unfolding long_within
long_fact e s h q = within_fact e (fence_piece s) (pick_fact s.len 4 (within e (fence_piece s)) h q)

fact_long : (e : ℕ) (s : Slot) → (4 < s.len → Lie e (fence_piece s)) → long_within e s ≡ true
unfolding long_within
fact_long e s h = fact_pick s.len 4 (within e (fence_piece s)) (λ q. fact_within e (fence_piece s) (h q))

-- ---- the header rules as facts
pub record Rules (f : Frame) (n : Numbers) : Type 0 where
  pub initialized : f.initialized ≡ 1
  pub flag : f.flag ≤ 1
  pub start : n.start ≡ 8 * n.count
  pub order : n.start ≤ n.end
  pub top : n.end ≤ 16256
  pub low : 96 ≤ n.effective
  pub high : n.effective ≤ 16352
  pub prefix_most : f.prefix_len ≤ 16256
  pub prefix : 16 < f.prefix_len → n.end + f.prefix_len ≤ 16256
  pub lower : 4 < f.lower.len → Lie n.end (fence_piece f.lower)
  pub upper : 4 < f.upper.len → Lie n.end (fence_piece f.upper)

pub rules : (f : Frame) (n : Numbers) → header_rules f n ≡ true → Rules f n
unfolding header_rules every
rules f n e =
    let a = both_parts (eqb f.initialized 1) _ e in
    let b = both_parts (leb f.flag 1) _ a.1 in
    let c = both_parts (eqb n.start (8 * n.count)) _ b.1 in
    let d = both_parts (leb n.start n.end) _ c.1 in
    let g = both_parts (leb n.end 16256) _ d.1 in
    let h = both_parts (leb 96 n.effective) _ g.1 in
    let i = both_parts (leb n.effective 16352) _ h.1 in
    let j = both_parts (leb f.prefix_len 16256) _ i.1 in
    let k = both_parts (pick (leb f.prefix_len 16) true (leb n.end (16256 - f.prefix_len))) _ j.1 in
    let l = both_parts (long_within n.end f.lower) _ k.1 in
    let u = both_parts (long_within n.end f.upper) _ l.1 in
    let m = leb-true f.prefix_len 16256 j.0 in
    record {
      initialized = eqb-true f.initialized 1 a.0;
      flag = leb-true f.flag 1 b.0;
      start = eqb-true n.start (8 * n.count) c.0;
      order = leb-true n.start n.end d.0;
      top = leb-true n.end 16256 g.0;
      low = leb-true 96 n.effective h.0;
      high = leb-true n.effective 16352 i.0;
      prefix_most = m;
      prefix = λ q. omega (arith, leb-true n.end (16256 - f.prefix_len) (pick_fact f.prefix_len 16 (leb n.end (16256 - f.prefix_len)) k.0 q));
      lower = long_fact n.end f.lower l.0;
      upper = long_fact n.end f.upper u.0;
    }

pub rules_back : (f : Frame) (n : Numbers) → Rules f n → header_rules f n ≡ true
unfolding header_rules every
rules_back f n R =
    let a = eq-eqb f.initialized 1 R.initialized in
    let b = le-leb f.flag 1 R.flag in
    let c = eq-eqb n.start (8 * n.count) R.start in
    let d = le-leb n.start n.end R.order in
    let g = le-leb n.end 16256 R.top in
    let h = le-leb 96 n.effective R.low in
    let i = le-leb n.effective 16352 R.high in
    let j = le-leb f.prefix_len 16256 R.prefix_most in
    let k = fact_pick f.prefix_len 16 (leb n.end (16256 - f.prefix_len)) (λ q. le-leb n.end (16256 - f.prefix_len) (omega (arith, R.prefix q))) in
    let l = fact_long n.end f.lower R.lower in
    let m = fact_long n.end f.upper R.upper in
    rw (a, b, c, d, g, h, i, j, k, l, m)

-- ---- the verdict as facts
pub record Fit (w : ℕ) (N : View) : Type 0 where
  pub r1 : Rules N.frame N.numbers
  pub r2 : u2 w N ≡ true
  pub r3 : u3 w N ≡ true
  pub r4 : u4 N ≡ true
  pub r5 : u5 N ≡ true
  pub r6 : u6 N ≡ true
  pub r7 : u7 N ≡ true
  pub r8 : u8 w N ≡ true
  pub r9 : u9 N ≡ true

broken_zero : (u : Bool) (n : ℕ) (us : List Bool) → first_broken (suc n) (u ∷ us) ≡ 0 → (u ≡ true) × (first_broken (suc (suc n)) us ≡ 0)
unfolding first_broken
broken_zero true n us e = (refl, e)
broken_zero false n us e = absurd (omega arith)

-- a page with verdict 0 keeps every rule
pub fit : (w : ℕ) (N : View) → fit_view w N ≡ 0 → Fit w N
unfolding fit_view
fit w N e =
    let a = broken_zero (u1 N) 0 _ e in
    let b = broken_zero (u2 w N) 1 _ a.1 in
    let c = broken_zero (u3 w N) 2 _ b.1 in
    let d = broken_zero (u4 N) 3 _ c.1 in
    let g = broken_zero (u5 N) 4 _ d.1 in
    let h = broken_zero (u6 N) 5 _ g.1 in
    let i = broken_zero (u7 N) 6 _ h.1 in
    let j = broken_zero (u8 w N) 7 _ i.1 in
    let k = broken_zero (u9 N) 8 _ j.1 in
    record {
      r1 = rules N.frame N.numbers a.0;
      r2 = b.0;
      r3 = c.0;
      r4 = d.0;
      r5 = g.0;
      r6 = h.0;
      r7 = i.0;
      r8 = j.0;
      r9 = k.0;
    }

-- and a page that keeps every rule has verdict 0
pub fit_back : (w : ℕ) (N : View) → Fit w N → fit_view w N ≡ 0
unfolding fit_view first_broken
fit_back w N F = let a = rules_back N.frame N.numbers F.r1 in rw (a, F.r2, F.r3, F.r4, F.r5, F.r6, F.r7, F.r8, F.r9)

-- U8 as an equation
pub effective_is : (w : ℕ) (N : View) → u8 w N ≡ true
    → N.numbers.effective
    ≡ 96 + fence_bytes N.frame.prefix_len N.frame.lower.len N.frame.upper.len + sum (λ (r : Row). need w r.slot.len) N.rows
unfolding u8
effective_is w N e =
    eqb-true N.numbers.effective
    (96 + fence_bytes N.frame.prefix_len N.frame.lower.len N.frame.upper.len + sum (λ (r : Row). need w r.slot.len) N.rows) e

-- ---- pieces
pub apart_sym : (a b : Piece) → apart a b ≡ apart b a
unfolding apart
apart_sym a b =
    let e : min a.hi b.hi ≡ min b.hi a.hi = omega arith in
    let f : max a.lo b.lo ≡ max b.lo a.lo = omega arith in
    rw (e, f)

-- what ends before e is apart from what begins from e on, and from what is empty
pub apart_low : (e : ℕ) (a b : Piece) → a.hi ≤ e → e ≤ b.lo → apart a b ≡ true
unfolding apart
apart_low e a b h k = le-leb (min a.hi b.hi) (max a.lo b.lo) (omega arith)

pub apart_empty : (a b : Piece) → b.hi ≤ b.lo → apart a b ≡ true
unfolding apart
apart_empty a b h = le-leb (min a.hi b.hi) (max a.lo b.lo) (omega arith)

-- a piece within another is apart from all that the other is
pub apart-part : (a b c : Piece) → b.lo ≤ a.lo → a.hi ≤ b.hi → apart b c ≡ true → apart a c ≡ true
unfolding apart
apart-part a b c h k e =
    let f = leb-true (min b.hi c.hi) (max b.lo c.lo) e in
    le-leb (min a.hi c.hi) (max a.lo c.lo) (omega arith)

module _ (f : Frame) (n : Numbers) (R : Rules f n) where
  prefix_lies : Lie n.end (prefix_piece f.prefix_len)
  unfolding prefix_piece
  prefix_lies =
      let t = R.top in
      elim (dec_le f.prefix_len 16) [
        | yes h ↦ (omega (arith, body_bytes_short 16 f.prefix_len h), omega arith)
        | no h ↦ (omega (arith, body_bytes_long 16 f.prefix_len (omega arith), R.prefix (omega arith)), omega arith)
      ]

  -- a fence's piece is empty or lies from the end on
  fence_lies : (s : Slot) → (4 < s.len → Lie n.end (fence_piece s)) → (fence_piece s).lo < (fence_piece s).hi → Lie n.end (fence_piece s)
  unfolding fence_piece
  fence_lies s h l = h (elim (dec_le s.len 4) [ yes k ↦ absurd (omega (arith, body_bytes_short 4 s.len k)) | no k ↦ omega arith ])

  lies : (a : Piece) → (a.lo < a.hi → Lie n.end a) → Lies n.end (16256 - n.end) a
  lies a h l = let x = h l in (x.0, omega (arith, R.top))

  pieces-lie : (l : List Piece) → all (within n.end) l ≡ true → AllLie n.end (16256 - n.end) (l ++ frame_pieces f)
  unfolding all
  pieces-lie [] e =
      one (lies (prefix_piece f.prefix_len) (λ l. prefix_lies))
      (one (lies (fence_piece f.lower) (fence_lies f.lower R.lower)) (one (lies (fence_piece f.upper) (fence_lies f.upper R.upper)) none))
  pieces-lie (a ∷ l) e =
      let b = both_parts (within n.end a) (all (within n.end) l) e in
      one (lies a (λ k. within_fact n.end a b.0)) (pieces-lie l b.1)

  fence-apart : (a : Piece) → a.hi ≤ n.end → (s : Slot) → (4 < s.len → Lie n.end (fence_piece s)) → apart a (fence_piece s) ≡ true
  fence-apart a h s k =
      elim (dec_lt (fence_piece s).lo (fence_piece s).hi) [
        | yes l ↦ apart_low n.end a (fence_piece s) h (fence_lies s k l).0
        | no l ↦ apart_empty a (fence_piece s) (omega arith)
      ]

  -- what lies below the end meets nothing
  pub new_apart : (a : Piece) → a.hi ≤ n.end → (l : List Piece) → all (within n.end) l ≡ true → all (apart a) (l ++ frame_pieces f) ≡ true
  unfolding all
  new_apart a h l e =
      all_append (apart a) l (frame_pieces f)
      (all-weaken (within n.end) (apart a) l (λ b k. apart_low n.end a b h (within_fact n.end b k).0) e)
      (rw (apart_low n.end a (prefix_piece f.prefix_len) h prefix_lies.0, fence-apart a h f.lower R.lower, fence-apart a h f.upper R.upper))

-- ---- packing: effective never exceeds used
sum-append : {A : Type 0} (g : A → ℕ) (l m : List A) → sum g (l ++ m) ≡ sum g l + sum g m
unfolding sum
sum-append g [] m = omega arith
sum-append g (x ∷ l) m = omega (arith, sum-append g l m)

-- the needs of entries are eight each and their payloads
needs : (w : ℕ) (l : List Row) → sum (λ (r : Row). need w r.slot.len) l ≡ 8 * length l + sum size (map (payload w) l)
unfolding sum need payload size
needs w [] = refl
needs w (r ∷ l) = omega (arith, needs w l)

-- the body bytes of prefix and fences are those of their pieces
frame-size : (f : Frame) → f.prefix_len ≤ 16256 → sum size (frame_pieces f) ≡ fence_bytes f.prefix_len f.lower.len f.upper.len
unfolding sum size fence_bytes prefix_piece fence_piece
frame-size f h =
    elim (dec_le f.prefix_len 16) [
      | yes l ↦ omega (arith, body_bytes_short 16 f.prefix_len l)
      | no l ↦ omega (arith, body_bytes_long 16 f.prefix_len (omega arith))
    ]

pub effective-used : (w : ℕ) (N : View) → Fit w N → length N.rows ≡ N.numbers.count → N.numbers.effective + N.numbers.end ≤ 16352 + N.numbers.start
effective-used w N F e =
    let R = F.r1 in
    let t = R.top in
    let s = R.start in
    let P = map (payload w) N.rows in
    omega (
      arith,
      effective_is w N F.r8,
      needs w N.rows,
      frame-size N.frame R.prefix_most,
      sum-append size P (frame_pieces N.frame),
      packed N.numbers.end (16256 - N.numbers.end) (P ++ frame_pieces N.frame) (pieces-lie N.frame N.numbers R P (unfold-u2 w N F.r2)) (unfold-u3 w N F.r3),
    )
  where
    unfold-u2 : (w : ℕ) (N : View) → u2 w N ≡ true → all (within N.numbers.end) (map (payload w) N.rows) ≡ true
    unfold-u2 w N e = unfold u2 in e

    unfold-u3 : (w : ℕ) (N : View) → u3 w N ≡ true → pairs apart (map (payload w) N.rows ++ frame_pieces N.frame) ≡ true
    unfold-u3 w N e = unfold u3 in e

-- ---- a page and its view
pub length-rows : (w : ℕ) (p : List ℕ) → length (view_of w p).rows ≡ (numbers_of p).count
unfolding view_of
length-rows w p = length-tab (numbers_of p).count (λ i. row_of w p (slot_of p i))

-- what a fit page has in its body lies from its end on
pub placed : (w : ℕ) (p : List ℕ) → Fit w (view_of w p) → Placed w p (numbers_of p).end (numbers_of p).count
unfolding view_of
placed w p F =
    record {
      prefix_most = F.r1.prefix_most;
      prefix = F.r1.prefix;
      lower = λ q. fence (frame_of p).lower (F.r1.lower q);
      upper = λ q. fence (frame_of p).upper (F.r1.upper q);
      rows = λ j h. row (slot_of p j) (within_fact (numbers_of p).end (payload w (row_of w p (slot_of p j))) (at j h));
    }
  where
    f : ℕ → Row
    f = λ i. row_of w p (slot_of p i)

    fence : (s : Slot) → Lie (numbers_of p).end (fence_piece s) → Held (numbers_of p).end 0 s
    fence s x = unfold fence_piece in (x.0, omega arith)

    row : (s : Slot) → Lie (numbers_of p).end (payload w (row_of w p s)) → Held (numbers_of p).end w s
    row s x = unfold payload row_of in x

    at : (j : ℕ) → j < (numbers_of p).count → within (numbers_of p).end (payload w (row_of w p (slot_of p j))) ≡ true
    at j h =
        let n = (numbers_of p).count in
        let e : get_or (map (payload w) (tab n f)) j (payload w (f j)) ≡ payload w (f j) = get_or-map (payload w) (tab n f) j (f j) ∙ ap (payload w) (getD-tab n f j (f j) h) in
        rw e at (all-at (within (numbers_of p).end) (map (payload w) (tab n f)) (unfold u2 in F.r2) j (payload w (f j)) (rw (length-map (tab n f) (payload w), length-tab n f) h))
