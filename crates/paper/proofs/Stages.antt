-- What every edit ends with: its four numbers written, and the hints in use refreshed. Neither touches the body, so the page then reads as
-- it did, but for those numbers and hints. Assumes nothing.
use Rattle.std.proofs.Common.{◌≡◌, refl, sym, ap, ◌∙◌, Bool, true, false, ◌⊎◌, inl, inr, ⊎_elim, List, [], ◌∷◌, ◌++◌, ℕ, zero, suc, ◌+◌, ◌*◌, ◌/◌, ◌^◌, ◌≤◌, ◌<◌, mul-le-mul_right, arith, leb-true, leb, eqb, length, get_or, length-append}
use native.Mathlib.Decide.{dec_le, dec_lt}
use lib.ListN.{get_or-eq_default}
use Rattle.octets.specs.Bytes.{IsBytes, le, bytes, put}
use Rattle.octets.proofs.Put.{length-put, put_below, put-above, put-append, put-bytes, append-bytes}
use Rattle.octets.proofs.Alike.{le-put-below}
use Rattle.octets.proofs.Little.{length-bytes, le-lt, le-put_same, bytes-bytes}
use Rattle.keys.specs.Choice.{pick}
use Rattle.paper.specs.Lists.{tab}
use Rattle.paper.specs.Page.{slot_at, place, slot_of, prefix_of, suffix_of, value_at, Row, row_of, rows_of, frame_of, Numbers, numbers_of, hints_of, view_of}
use Rattle.paper.specs.Hints.{in_use, window, fresh, flat, refresh}
use Rattle.paper.specs.Verdicts.{prefix_piece, head_at}
use Rattle.paper.specs.Edits.{number_fields, put_all}
use Rattle.paper.specs.Views.{refreshed}
use Rattle.paper.specs.declared.page.Slot.{Slot}
use Rattle.paper.proofs.Lists.{both_parts, tab-ext, tab_lt, length-tab, getD-tab}
use Rattle.paper.proofs.Same.{Same, same-le, same-part, same-slot, same-hints, same-numbers, same-suffix, same_row, suffix_in, prefix_in, body_bytes_long, Held}
use Rattle.paper.proofs.Fields.{length-put_all, same_clear, le-field}

-- what lies in the body lies from e on: n is the number of entries
pub record Placed (w : ℕ) (p : List ℕ) (e n : ℕ) : Type 0 where
  pub prefix_most : (frame_of p).prefix_len ≤ 16256
  pub prefix : 16 < (frame_of p).prefix_len → e + (frame_of p).prefix_len ≤ 16256
  pub lower : 4 < (frame_of p).lower.len → Held e 0 (frame_of p).lower
  pub upper : 4 < (frame_of p).upper.len → Held e 0 (frame_of p).upper
  pub rows : (j : ℕ) → j < n → Held e w (slot_of p j)

-- ---- frames
-- the frame is the same where the header's other fields, the prefix and the fences' suffixes are
module _ (q p : List ℕ) (l : length q ≡ length p) (a : Same q p 0 2) (b : Same q p 8 40) (c : Same q p 44 64) where
  pub frame-parts : prefix_of q (frame_of p).prefix_len ≡ prefix_of p (frame_of p).prefix_len → ((s : Slot) → (s ≡ (frame_of p).lower) ⊎ (s ≡ (frame_of p).upper) → suffix_of q s ≡ suffix_of p s)
      → frame_of q ≡ frame_of p
  unfolding frame_of
  frame-parts pre suffix =
      let lower : slot_at q 16 ≡ slot_at p 16 = same-slot q p 8 40 b 16 (omega arith) (omega arith) in
      let upper : slot_at q 32 ≡ slot_at p 32 = same-slot q p 8 40 b 32 (omega arith) (omega arith) in
      let len : le 2 q 46 ≡ le 2 p 46 = same-le q p 44 64 c 2 46 (omega arith) (omega arith) in
      let prefix : prefix_of q (le 2 q 46) ≡ prefix_of p (le 2 p 46) = rw len pre in
      let ls : suffix_of q (slot_at q 16) ≡ suffix_of p (slot_at p 16) = rw lower (suffix (slot_at p 16) (inl refl)) in
      let us : suffix_of q (slot_at q 32) ≡ suffix_of p (slot_at p 32) = rw upper (suffix (slot_at p 32) (inr refl)) in
      let height = same-le q p 0 2 a 2 0 (omega arith) (omega arith) in
      let timestamp = same-le q p 8 40 b 8 8 (omega arith) (omega arith) in
      let value = same-le q p 8 40 b 8 24 (omega arith) (omega arith) in
      let initialized = same-le q p 44 64 c 1 44 (omega arith) (omega arith) in
      let flag = same-le q p 44 64 c 1 45 (omega arith) (omega arith) in
      let inline = same-part q p 44 64 c l 16 48 (omega arith) (omega arith) in
      λ k. record {
        height = height k;
        timestamp = timestamp k;
        lower = lower k;
        lower_value = value k;
        upper = upper k;
        initialized = initialized k;
        flag = flag k;
        prefix_len = len k;
        inline = inline k;
        prefix = prefix k;
        lower_suffix = ls k;
        upper_suffix = us k;
      }

  -- a prefix that is inline, or lies in bytes of the body that are the same
  prefix_same : (e n : ℕ) → Same q p (96 + e) 16384 → (16 < n → e + n ≤ 16256) → prefix_of q n ≡ prefix_of p n
  unfolding prefix_piece
  prefix_same e n body f =
      prefix_in q p l c n (elim (dec_le n 16) [ yes k ↦ omega arith | no k ↦ omega (arith, f (omega arith)) ])
      (λ k j a b. body j (omega (arith, f k, body_bytes_long 16 n k)) (omega arith))

-- ---- a page whose body is the same from e on
module _ (w : ℕ) (q p : List ℕ) (e n : ℕ) (l : length q ≡ length p) (P : Placed w p e n) (body : Same q p (96 + e) 16384) where
  pub frame_same : Same q p 0 2 → Same q p 8 40 → Same q p 44 64 → frame_of q ≡ frame_of p
  frame_same a b c =
      frame-parts q p l a b c (prefix_same q p l a b c e (frame_of p).prefix_len body P.prefix)
      (λ s f. ⊎_elim (λ g. same-suffix q p e body l s (λ k. rw g (P.lower (rw g at k)))) (λ g. same-suffix q p e body l s (λ k. rw g (P.upper (rw g at k)))) f)

  -- an entry of p reads the same on q
  pub entry-same : (j : ℕ) → j < n → row_of w q (slot_of p j) ≡ row_of w p (slot_of p j)
  entry-same j h = same_row q p e body l (slot_of p j) w (P.rows j h)

-- ---- a page whose body is the same altogether
-- past the end nothing stands
same_over : (q p : List ℕ) (a n : ℕ) → length q ≡ n → length p ≡ n → Same q p a n → (b : ℕ) → Same q p a b
same_over q p a n lq lp h b j m k = go (dec_lt j n)
  where
    go : Dec (j < n) → get_or q j 0 ≡ get_or p j 0
    go (yes x) = h j m x
    go (no x) = get_or-eq_default q 0 {n = j} (omega arith) ∙ sym (get_or-eq_default p 0 {n = j} (omega arith))

module _ (q p : List ℕ) (lq : length q ≡ 16384) (lp : length p ≡ 16384) (body : Same q p 96 16384) where
  l : length q ≡ length p
  l = lq ∙ sym lp

  same_body : (b : ℕ) → Same q p 96 b
  same_body = same_over q p 96 16384 lq lp body

  slots_same : (i : ℕ) → slot_of q i ≡ slot_of p i
  unfolding slot_of
  slots_same i = same-slot q p 96 (place i + 8) (same_body (place i + 8)) (place i) (omega arith) (omega arith)

  suffix-any : (s : Slot) → suffix_of q s ≡ suffix_of p s
  suffix-any s = suffix_in q p l s (λ d j a b. same_body (96 + s.offset + s.len) j (omega arith) b)

  row_any : (w : ℕ) (s : Slot) → row_of w q s ≡ row_of w p s
  unfolding row_of
  row_any w s = rw (suffix-any s, same-le q p 96 (value_at s + w) (same_body (value_at s + w)) w (value_at s) (omega arith) (omega arith))

  rows-any : (w n : ℕ) → rows_of w q n ≡ rows_of w p n
  rows-any w n = tab-ext n (λ i. row_of w q (slot_of q i)) (λ i. row_of w p (slot_of p i)) (λ i h. rw (slots_same i) (row_any w (slot_of p i)))

  -- and so does the frame, where the header's other fields are the same
  frame-any : (frame_of p).prefix_len ≤ 16256 → Same q p 0 2 → Same q p 8 40 → Same q p 44 64 → frame_of q ≡ frame_of p
  frame-any m a b c = frame-parts q p l a b c (prefix_same q p l a b c 0 (frame_of p).prefix_len body (λ k. omega arith)) (λ s f. suffix-any s)

-- ---- the numbers written
-- numbers that their fields hold
pub record Fits (n : Numbers) : Type 0 where
  pub count : n.count < 65536
  pub start : n.start < 65536
  pub end : n.end < 65536
  pub effective : n.effective < 4294967296

module _ (w : ℕ) (p : List ℕ) (n : Numbers) (size : length p ≡ 16384) (most : (frame_of p).prefix_len ≤ 16256) (F : Fits n) where
  q : List ℕ
  q = put_all p (number_fields n)

  long : length q ≡ 16384
  unfolding q
  long = length-put_all p (number_fields n) ∙ size

  untouched : (o k : ℕ) → Rattle.paper.proofs.Fields.clear o k (number_fields n) ≡ true → Same q p o (o + k)
  unfolding q
  untouched o k e = same_clear p (number_fields n) o k e

  frame-numbers : frame_of q ≡ frame_of p
  unfolding number_fields
  frame-numbers = frame-any q p long size (untouched 96 16288 refl) most (untouched 0 2 refl) (untouched 8 32 refl) (untouched 44 20 refl)

  numbers-numbers : numbers_of q ≡ n
  unfolding numbers_of number_fields q
  numbers-numbers =
      let count = le-field (number_fields n) 0 p 96 (omega arith) refl F.count in
      let start = le-field (number_fields n) 1 p 96 (omega arith) refl F.start in
      let end = le-field (number_fields n) 2 p 96 (omega arith) refl F.end in
      let effective = le-field (number_fields n) 3 p 96 (omega arith) refl F.effective in
      λ k. record { count = count k; start = start k; end = end k; effective = effective k }

  -- the page then reads as it did, but for the numbers, and for as many entries as they say
  pub numbers-view : view_of w (put_all p (number_fields n)) ≡ record { frame = frame_of p; numbers = n; hints = hints_of p; rows = rows_of w p n.count }
  unfolding view_of q number_fields
  numbers-view =
      let hints : hints_of q ≡ hints_of p = same-hints q p 44 96 (untouched 44 52 refl) (omega arith) (omega arith) in
      let count : (numbers_of q).count ≡ n.count = ap (λ (m : Numbers). m.count) numbers-numbers in
      let rows : rows_of w q (numbers_of q).count ≡ rows_of w p n.count = rw count (rows-any q p long size (untouched 96 16288 refl) w n.count) in
      λ k. record { frame = frame-numbers k; numbers = numbers-numbers k; hints = hints k; rows = rows k }

-- ---- the hints refreshed
pub length-flat : (hs : List ℕ) → length (flat hs) ≡ 4 * length hs
unfolding flat
length-flat [] = refl
length-flat (h ∷ hs) = rw (length-append, length-bytes, length-flat hs) (omega arith)

pub flat-bytes : (hs : List ℕ) → IsBytes (flat hs)
unfolding flat
flat-bytes [] i = omega arith
flat-bytes (h ∷ hs) i = append-bytes (bytes 4 h) (flat hs) (bytes-bytes 4 h) (flat-bytes hs) i

-- numbers of four bytes, one after the other, read back
flat_at : (hs : List ℕ) (p : List ℕ) (o j : ℕ) → o + 4 * length hs ≤ length p → ((i : ℕ) → get_or hs i 0 < 256 ^ 4) → j < length hs
    → le 4 (put p o (flat hs)) (o + 4 * j) ≡ get_or hs j 0
unfolding flat
flat_at [] p o j h b l = absurd (omega arith)
flat_at (x ∷ hs) p o j h b l =
    let two : put p o (bytes 4 x ++ flat hs) ≡ put (put p o (bytes 4 x)) (o + 4) (flat hs) = put-append p o (bytes 4 x) (flat hs) ∙ rw length-bytes in
    rw two (go j l (λ i m. flat_at hs (put p o (bytes 4 x)) (o + 4) i (rw length-put (omega arith)) (λ k. b (suc k)) m))
  where
    q : List ℕ
    q = put (put p o (bytes 4 x)) (o + 4) (flat hs)

    go : (j : ℕ) → j < suc (length hs) → ((i : ℕ) → i < length hs → le 4 q (o + 4 + 4 * i) ≡ get_or hs i 0) → le 4 q (o + 4 * j) ≡ get_or (x ∷ hs) j 0
    go zero m next =
        let e : o + 4 * 0 ≡ o = omega arith in
        rw e (le-put-below 4 (put p o (bytes 4 x)) (o + 4) (flat hs) o (omega arith) ∙ le-put_same 4 p o x (omega arith) (b 0))
    go (suc i) m next = let e : o + 4 * suc i ≡ o + 4 + 4 * i = omega arith in rw e (next i (omega arith))

-- the slot of a hint in use is there
pub hint_slot : (n j : ℕ) → 64 ≤ n → j < 8 → (j + 1) * window n < n
hint_slot n j h l = omega (arith, mul-le-mul_right {m = j + 1} {n = 8} (n / 9) (omega arith))

head_at_tab : (n : ℕ) (f : ℕ → Row) (k : ℕ) → k < n → head_at (tab n f) k ≡ (f k).slot.head
unfolding head_at tab
head_at_tab zero f k h = absurd (omega arith)
head_at_tab (suc n) f zero h = refl
head_at_tab (suc n) f (suc k) h = head_at_tab n (λ j. f (suc j)) k (omega arith)

pub head_at-rows : (w : ℕ) (p : List ℕ) (n k : ℕ) → k < n → head_at (rows_of w p n) k ≡ (slot_of p k).head
unfolding row_of
head_at-rows w p n k h = head_at_tab n (λ i. row_of w p (slot_of p i)) k h

module _ (p : List ℕ) (size : length p ≡ 16384) (bytes : IsBytes p) where
  abbrev n : ℕ
  n = (numbers_of p).count

  abbrev heads : List ℕ
  heads = fresh (numbers_of p).count (λ i. (slot_of p i).head)

  head-lt : (i : ℕ) → (slot_of p i).head < 256 ^ 4
  unfolding slot_of
  head-lt i = le-lt 4 p (place i + 4) bytes

  length-heads : length (flat heads) ≡ 32
  unfolding fresh
  length-heads = rw (length-flat heads, length-tab 8 (λ i. (slot_of p ((i + 1) * window n)).head))

  -- the hints are then the heads of the slots that they stand for
  hints-put : hints_of (put p 64 (flat heads)) ≡ heads
  unfolding hints_of fresh
  hints-put =
      let f : ℕ → ℕ = λ i. (slot_of p ((i + 1) * window n)).head in
      let l : length (tab 8 f) ≡ 8 = length-tab 8 f in
      tab-ext 8 (λ j. le 4 (put p 64 (flat (tab 8 f))) (64 + 4 * j)) f
      (λ j k. flat_at (tab 8 f) p 64 j (omega arith) (tab_lt (256 ^ 4) (omega arith) f (λ i. head-lt ((i + 1) * window n)) 8) (omega arith) ∙ getD-tab 8 f j 0 k)

  -- in use, they are those that the rows ask for
  heads-rows : (w : ℕ) → 64 ≤ n → heads ≡ fresh n (head_at (rows_of w p n))
  unfolding fresh
  heads-rows w h =
      tab-ext 8 (λ j. (slot_of p ((j + 1) * window n)).head) (λ j. head_at (rows_of w p n) ((j + 1) * window n))
      (λ j l. sym (head_at-rows w p n ((j + 1) * window n) (hint_slot n j h l)))

-- what both arms have
either : (P : List ℕ → Type 0) (b : Bool) (x y : List ℕ) → P x → P y → P (pick b x y)
either P true x y h k = h
either P false x y h k = k

pub length-refresh : (p : List ℕ) → length (refresh p) ≡ length p
unfolding refresh
length-refresh p = either (λ q. length q ≡ length p) (in_use (frame_of p).flag (numbers_of p).count) _ p (length-put p _ _) refl

pub refresh-bytes : (p : List ℕ) → IsBytes p → IsBytes (refresh p)
unfolding refresh
refresh-bytes p h = either IsBytes (in_use (frame_of p).flag (numbers_of p).count) _ p (put-bytes p _ _ h (flat-bytes _)) h

-- the page then reads as it did, but for the hints
module _ (w : ℕ) (p : List ℕ) (size : length p ≡ 16384) (bytes : IsBytes p) (most : (frame_of p).prefix_len ≤ 16256) where
  abbrev run : List ℕ
  run = flat (heads p size bytes)

  low : Same (put p 64 run) p 0 64
  low j a b = put_below p 64 run j b

  above : Same (put p 64 run) p 96 16384
  above j a b = put-above p 64 run j (omega (arith, length-heads p size bytes))

  narrow : (a b : ℕ) → b ≤ 64 → Same (put p 64 run) p a b
  narrow a b h j l m = low j (omega arith) (omega arith)

  numbers-low : numbers_of (put p 64 run) ≡ numbers_of p
  numbers-low = same-numbers (put p 64 run) p 0 64 low (omega arith) (omega arith)

  put_view : 64 ≤ (numbers_of p).count
      → view_of w (put p 64 run) ≡ record { frame = frame_of p; numbers = numbers_of p; hints = fresh (numbers_of p).count (head_at (rows_of w p (numbers_of p).count)); rows = rows_of w p (numbers_of p).count }
  unfolding view_of
  put_view h =
      let long : length (put p 64 run) ≡ 16384 = length-put p 64 run ∙ size in
      let frame : frame_of (put p 64 run) ≡ frame_of p = frame-any (put p 64 run) p long size above most (narrow 0 2 (omega arith)) (narrow 8 40 (omega arith)) (narrow 44 64 (omega arith)) in
      let hints : hints_of (put p 64 run) ≡ fresh (numbers_of p).count (head_at (rows_of w p (numbers_of p).count)) = hints-put p size bytes ∙ heads-rows p size bytes w h in
      let count : (numbers_of (put p 64 run)).count ≡ (numbers_of p).count = ap (λ (m : Numbers). m.count) numbers-low in
      let rows : rows_of w (put p 64 run) (numbers_of (put p 64 run)).count ≡ rows_of w p (numbers_of p).count = rw count (rows-any (put p 64 run) p long size above w (numbers_of p).count) in
      λ k. record { frame = frame k; numbers = numbers-low k; hints = hints k; rows = rows k }

  pub refresh-view : view_of w (refresh p) ≡ refreshed (view_of w p) (numbers_of p) (rows_of w p (numbers_of p).count)
  refresh-view = unfold refresh refreshed view_of in go (in_use (frame_of p).flag (numbers_of p).count) refl
    where
      go : (b : Bool) → in_use (frame_of p).flag (numbers_of p).count ≡ b
          → view_of w (pick b (put p 64 run) p)
          ≡ record { frame = frame_of p; numbers = numbers_of p; hints = pick b (fresh (numbers_of p).count (head_at (rows_of w p (numbers_of p).count))) (hints_of p); rows = rows_of w p (numbers_of p).count }
      go true e = put_view (leb-true 64 (numbers_of p).count (both_parts (eqb (frame_of p).flag 1) (leb 64 (numbers_of p).count) (unfold in_use in e)).1)
      go false e = unfold view_of in refl
