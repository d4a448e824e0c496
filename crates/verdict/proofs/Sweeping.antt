-- One sweep over the entries: where pieces lie, one entry more that was swept, all pieces apart, and the first and the last entry that tell
-- whether all lie within the fences. Assumes nothing.
use Rattle.std.proofs.Common.{◌≡◌, refl, sym, ap, ◌∙◌, Bool, true, false, not, ◌&&◌, ◌||◌, List, [], ℕ, zero, suc, ◌+◌, ◌-◌, ◌*◌, ◌^◌, ◌≤◌, ◌<◌, arith, add-one, eq-eqb, lt-ltb, eqb, length}
use Rattle.std.proofs.lemmas.Bool.{both_ways}
use native.Mathlib.Decide.{dec_lt, dec_le}
use borrow.Author.Tests.{not-true}
use Rattle.octets.specs.Bytes.{IsBytes}
use Rattle.octets.proofs.Little.{le-lt}
use Rattle.keys.specs.Choice.{pick, both}
use Rattle.keys.specs.Keys.{head_of}
use Rattle.paper.specs.Lists.{tab, all, sum, less, rising}
use Rattle.paper.specs.Page.{place, slot_at, slot_of, suffix_of, body_bytes}
use Rattle.paper.specs.Space.{need}
use Rattle.paper.specs.Verdicts.{Piece, slot_payload, fence_piece, prefix_piece, within, faithful}
use Rattle.paper.specs.declared.page.Slot.{Slot}
use Rattle.paper.specs.declared.page.Header.{Header}
use Rattle.paper.proofs.Lists.{both_parts, both_yes, length-tab, getD-tab}
use Rattle.paper.proofs.Sorted.{less_trans}
use Rattle.paper.proofs.Swaps.{rising_at}
use Rattle.paper.proofs.Same.{body_bytes_short, body_bytes_long}
use Rattle.paper.proofs.Fit.{Lie, within_fact}
use Rattle.node.specs.Header.{rules_of}
use Rattle.node.proofs.Rules.{rules_in}
use Rattle.search.specs.Fence.{inside_by}
use Rattle.verdict.specs.declared.tally.Tally.{Tally}
use Rattle.verdict.specs.Pieces.{held_with, piece_at}
use Rattle.verdict.specs.declared.fences.Fences.{Fences}
use Rattle.verdict.specs.Honest.{Honest, FencesOf}
use Rattle.verdict.specs.Starts.{Begun, Lone, Starts}
use Rattle.verdict.specs.Sweep.{Before, Swept, AllLone, Sound}
use Rattle.verdict.specs.Tally.{suffix_at, tally_of}
use Rattle.verdict.proofs.Pieced.{tab-all, all_tab, held-slot, held_all, piece-payload, piece-prefix, piece-lower, piece-upper}
use Rattle.verdict.proofs.Overlaps.{disjoint-yes}
use Rattle.verdict.proofs.Suffixes.{below-heads}
use Rattle.verdict.proofs.Tallied.{all_more, sum_more, rising_next, fenced_is, honest-len, needs_most, entry-room}
use Rattle.verdict.proofs.Starting.{starts_none, starts_more, all_apart}

-- ---- where pieces lie
abbrev pub Lies : ℕ → Piece → Type 0
Lies e a = a.lo < a.hi → Lie e a

fence_lies : (e : ℕ) (s : Slot) → (4 < s.len → Lie e (fence_piece s)) → Lies e (fence_piece s)
unfolding fence_piece
fence_lies e s f l = go (dec_le s.len 4)
  where
    go : Dec (s.len ≤ 4) → (e ≤ s.offset) × (s.offset + body_bytes 4 s.len ≤ 16256)
    go (yes k) = absurd (omega (arith, body_bytes_short 4 s.len k))
    go (no k) = f (omega arith)

prefix_lies : (e n : ℕ) → (16 < n → e + n ≤ 16256) → Lies e (prefix_piece n)
unfolding prefix_piece
prefix_lies e n f l = go (dec_le n 16)
  where
    go : Dec (n ≤ 16) → (e ≤ 16256 - body_bytes 16 n) × (16256 ≤ 16256)
    go (yes k) = absurd (omega (arith, body_bytes_short 16 n k))
    go (no k) = (omega (arith, body_bytes_long 16 n (omega arith), f (omega arith)), omega arith)

pub frame_lies : (w : ℕ) (p : List ℕ) (h : Header) (j : ℕ) → rules_of h ≡ true → h.count ≤ j → Lies h.end (piece_at w p h j)
frame_lies w p h j r l = go (dec_le j h.count) (dec_le j (h.count + 1))
  where
    go : Dec (j ≤ h.count) → Dec (j ≤ h.count + 1) → Lies h.end (piece_at w p h j)
    go (yes b) c = rw (piece-prefix w p h j (omega arith)) (prefix_lies h.end h.prefix_len (rules_in h r).prefix)
    go (no b) (yes c) = rw (piece-lower w p h j (omega arith)) (fence_lies h.end h.lower (rules_in h r).lower)
    go (no b) (no c) = rw (piece-upper w p h j (omega arith)) (fence_lies h.end h.upper (rules_in h r).upper)

-- lo..hi is a piece that lies in the body, and a map of n cells from o on reaches from its first byte to its end
pub in_map : (e o n lo hi : ℕ) (a : Piece) → (lo ≡ a.lo) × (hi ≡ a.hi) → Lies e a → o ≤ e → 16320 ≤ o + 8 * n → lo < hi → (o ≤ lo) × (hi + 64 ≤ o + 8 * n) × (hi ≤ 16384)
in_map e o n lo hi a q f b c l =
    let k : a.lo < a.hi = rw (← q.0, ← q.1) l in
    let x = f k in
    (omega (arith, q.0, q.1), omega (arith, q.0, q.1), omega (arith, q.0, q.1))

pub payload_lies : (w : ℕ) (p : List ℕ) (h : Header) (o n j lo hi : ℕ) → held_with w p h ≡ true → j < h.count
    → (lo ≡ (slot_payload w (slot_of p j)).lo) × (hi ≡ (slot_payload w (slot_of p j)).hi) → o ≤ h.end → 16320 ≤ o + 8 * n
    → (o ≤ lo) × (lo ≤ hi) × (hi + 64 ≤ o + 8 * n) × (hi ≤ 16384)
payload_lies w p h o n j lo hi e l q b c =
    let x = within_fact h.end (slot_payload w (slot_of p j)) (held-slot w p h e j l) in
    let lo-is = q.0 in
    let hi-is = q.1 in
    (omega arith, omega arith, omega arith, omega arith)

-- ---- the slot before
module _ (p : List ℕ) (i head : ℕ) (B : Before p i head) (z : 0 < i) where
  pub heads-rise : IsBytes p → (s : Slot) → Honest p s → s.head < 256 ^ 4 → head < s.head → less (suffix_at p (i - 1)) (suffix_of p s) ≡ true
  unfolding slot_of
  heads-rise bytes s H l k =
      let e : head ≡ (slot_of p (i - 1)).head = B.is_head z in
      sym (below-heads p bytes (slot_of p (i - 1)) s (le-lt 4 p (place (i - 1) + 4) bytes) l (B.honest z).faithful H.faithful (λ q. omega arith))
      ∙ lt-ltb (slot_of p (i - 1)).head s.head (omega arith)

  pub honest-before : Honest p (slot_at p (88 + 8 * i))
  unfolding slot_of
  honest-before = let q : 88 + 8 * i ≡ place (i - 1) = omega arith in rw q (B.honest z)

  pub rises-here : (s : Slot) → less (suffix_of p (slot_at p (88 + 8 * i))) (suffix_of p s) ≡ true → less (suffix_at p (i - 1)) (suffix_of p s) ≡ true
  unfolding slot_of
  rises-here s f = let q : 88 + 8 * i ≡ place (i - 1) = omega arith in rw q at f

-- ---- an entry
pub held-room : (w : ℕ) (p : List ℕ) (e : ℕ) (s : Slot) → 16384 ≤ length p → within e (slot_payload w s) ≡ true → 4 < s.len → 96 + s.offset + s.len ≤ length p
held-room w p e s l b q = omega (arith, (within_fact e (slot_payload w s) b).1, body_bytes_long 4 s.len q)

-- x is the head of its suffix
pub honest-held : (w : ℕ) (p : List ℕ) (e : ℕ) (s : Slot) (x : ℕ) → 16384 ≤ length p → within e (slot_payload w s) ≡ true → x ≡ head_of (suffix_of p s) → x ≡ s.head
    → Honest p s
honest-held w p e s x l b q r = record { faithful = sym r ∙ q; room = held-room w p e s l b }

module _ (w : ℕ) (p : List ℕ) (h : Header) (o : ℕ) where
  pub swept_none : (m : List ℕ) → Swept w p h o 0 0 m
  unfolding tally_of tab all sum rising
  swept_none m = record { held = λ k l. absurd (omega arith); faithful = refl; rising = refl; sum = refl; starts = starts_none (piece_at w p h) o m }

  -- entry n has slot s with the head x of its suffix, its key is above that of the entry before it, and its start was entered
  module _ (n needs : ℕ) (m after : List ℕ) (s : Slot) (x k : ℕ) (S : Swept w p h o n needs m) (l : n < h.count) (e : s ≡ slot_at p (place n))
      (b : within h.end (slot_payload w s) ≡ true) (ex : x ≡ head_of (suffix_of p s)) (same : x ≡ s.head)
      (up : 0 < n → less (suffix_at p (n - 1)) (suffix_of p s) ≡ true) (ek : k ≡ body_bytes 4 s.len) where
    slot_is : slot_of p n ≡ s
    unfolding slot_of
    slot_is = sym e

    pub before_more : 16384 ≤ length p → Before p (n + 1) s.head
    before_more page =
        let q : n + 1 - 1 ≡ n = omega arith in
        record { honest = λ i. rw (q, slot_is) (honest-held w p h.end s x page b ex same); is_head = λ i. rw (q, slot_is) }

    held_next : (i : ℕ) → i < n + 1 → Dec (i < n) → within h.end (slot_payload w (slot_of p i)) ≡ true
    held_next i q (yes r) = S.held i r
    held_next i q (no r) = let g : i ≡ n = omega arith in rw (g, slot_is) b

    faithful-next : (tally_of w p h (suc n)).faithful ≡ true
    unfolding tally_of faithful
    faithful-next =
        all_more (λ s. faithful s (suffix_of p s)) n (slot_of p)
        ∙ both_yes (all (λ s. faithful s (suffix_of p s)) (tab n (slot_of p))) (faithful (slot_of p n) (suffix_of p (slot_of p n))) S.faithful
        (rw slot_is (eq-eqb s.head (head_of (suffix_of p s)) (sym same ∙ ex)))

    rising-up : (tally_of w p h (suc n)).rising ≡ true
    unfolding tally_of
    rising-up =
        sym (rising_next n (suffix_at p) true (λ i. refl) (λ i. sym (rw slot_is (up i)))) ∙ both_yes (rising (tab n (suffix_at p))) true S.rising refl

    needs-next : needs + (8 + (k + w)) ≡ (tally_of w p h (suc n)).needs
    unfolding tally_of need
    needs-next =
        let a = sum_more (λ (s : Slot). need w s.len) n (slot_of p) in
        let c : need w (slot_of p n).len ≡ 8 + w + body_bytes 4 s.len = rw slot_is in
        omega (arith, S.sum, ek)

    piece_is : (s.offset ≡ (piece_at w p h n).lo) × (s.offset + (k + w) ≡ (piece_at w p h n).hi)
    piece_is = rw (piece-payload w p h n l, slot_is, ek) (refl, refl)

    pub swept-more : o ≤ h.end → Begun m after o s.offset (s.offset + (k + w)) → Swept w p h o (n + 1) (needs + (8 + (k + w))) after
    swept-more low B =
        let z : o ≤ s.offset = omega (arith, (within_fact h.end (slot_payload w s) b).0) in
        record {
          held = λ i q. held_next i q (dec_lt i n);
          faithful = rw (add-one n) faithful-next;
          rising = rw (add-one n) rising-up;
          sum = rw (add-one n) needs-next;
          starts = starts_more (piece_at w p h) o n m after s.offset (s.offset + (k + w)) S.starts piece_is (λ q. z) B;
        }

  pub swept-fits : (i needs : ℕ) (m : List ℕ) → IsBytes p → w < 256 → i < 2032 → Swept w p h o i needs m → needs ≤ 133701536
  swept-fits i needs m bytes l k S = let q = needs_most w p bytes h i (tally_of w p h i) l k refl in omega (arith, S.sum)

  -- ---- all pieces
  pub lone-more : (a n : ℕ) (m : List ℕ) → AllLone w p h o a n m → ((piece_at w p h n).lo < (piece_at w p h n).hi → Lone m ((piece_at w p h n).lo - o) ((piece_at w p h n).hi - o))
      → AllLone w p h o a (n + 1) m
  lone-more a n m A f = record { lone = λ k b c. go k b c (dec_lt k n) }
    where
      go : (k : ℕ) → a ≤ k → k < n + 1 → Dec (k < n) → (piece_at w p h k).lo < (piece_at w p h k).hi → Lone m ((piece_at w p h k).lo - o) ((piece_at w p h k).hi - o)
      go k b c (yes r) = A.lone k b r
      go k b c (no r) = let g : k ≡ n = omega arith in rw g f

  pub lone-payload : (n lo hi : ℕ) (m : List ℕ) → n < h.count → (lo ≡ (slot_payload w (slot_of p n)).lo) × (hi ≡ (slot_payload w (slot_of p n)).hi)
      → Lone m (lo - o) (hi - o) → (piece_at w p h n).lo < (piece_at w p h n).hi → Lone m ((piece_at w p h n).lo - o) ((piece_at w p h n).hi - o)
  lone-payload n lo hi m l q L =
      let f : lo < hi → Lone m (lo - o) (hi - o) = λ k. L in
      rw (piece-payload w p h n l) (rw (q.0, q.1) at f)

  pub sound : (needs : ℕ) (m m₀ : List ℕ) → Swept w p h o h.count needs m₀ → Starts (piece_at w p h) o (h.count + 3) m → AllLone w p h o 0 h.count m
      → AllLone w p h o h.count (h.count + 3) m → Sound w p h needs
  sound needs m m₀ S T A B =
      record {
        held = held_all w p h h.count (omega arith) S.held;
        disjoint = disjoint-yes w p h (h.count + 3) (omega arith) (λ j q i l. all_apart (piece_at w p h) o (h.count + 3) m T each i j l q);
        faithful = S.faithful;
        rising = S.rising;
        sum = S.sum;
      }
    where
      each : (k : ℕ) → k < h.count + 3 → (piece_at w p h k).lo < (piece_at w p h k).hi → Lone m ((piece_at w p h k).lo - o) ((piece_at w p h k).hi - o)
      each k l = go (dec_lt k h.count)
        where
          go : Dec (k < h.count) → (piece_at w p h k).lo < (piece_at w p h k).hi → Lone m ((piece_at w p h k).lo - o) ((piece_at w p h k).hi - o)
          go (yes a) = A.lone k (omega arith) a
          go (no a) = B.lone k (omega arith) l

-- ---- keys that rise lie within the fences where the first and the last do
module _ (n : ℕ) (f : ℕ → List ℕ) (r : rising (tab n f) ≡ true) where
  next_up : (j : ℕ) → suc j < n → less (f j) (f (suc j)) ≡ true
  next_up j l =
      rw (getD-tab n f j [] (omega arith), getD-tab n f (suc j) [] l) at (rising_at (tab n f) r j (rw (length-tab n f) l))

  far-up : (i d : ℕ) → i + suc d < n → less (f i) (f (i + suc d)) ≡ true
  far-up i zero l = let q : i + 1 ≡ suc i = omega arith in rw q (next_up i (omega arith))
  far-up i (suc d) l =
      let q : i + suc (suc d) ≡ suc (i + suc d) = omega arith in
      rw q (less_trans (f i) (f (i + suc d)) (f (suc (i + suc d))) (far-up i d (omega arith)) (next_up (i + suc d) (omega arith)))

  up : (i j : ℕ) → i < j → j < n → less (f i) (f j) ≡ true
  up i j a b = let q : i + suc (j - suc i) ≡ j = omega arith in rw q at (far-up i (j - suc i) (omega arith))

  module _ (low high : List ℕ) (e : Bool) (pos : 0 < n) where
    abbrev inside : List ℕ → Bool
    inside x = both (not (less x low)) (pick e true (less x high))

    above_low : not (less (f 0) low) ≡ true → (i : ℕ) → i < n → not (less (f i) low) ≡ true
    above_low a i l = go (dec_lt 0 i) (less (f i) low) refl
      where
        go : Dec (0 < i) → (b : Bool) → less (f i) low ≡ b → not b ≡ true
        go d false q = refl
        go (no d) true q = let g : i ≡ 0 = omega arith in absurd (both_ways (less (f 0) low) (not-true (less (f 0) low) a) (rw g at q))
        go (yes d) true q = absurd (both_ways (not (less (f 0) low)) (ap not (less_trans (f 0) (f i) low (up 0 i d l) q)) a)

    below-high : pick e true (less (f (n - 1)) high) ≡ true → (i : ℕ) → i < n → pick e true (less (f i) high) ≡ true
    below-high a i l = go e refl (dec_lt i (n - 1))
      where
        go : (t : Bool) → e ≡ t → Dec (i < n - 1) → pick t true (less (f i) high) ≡ true
        go true q d = refl
        go false q (yes d) = less_trans (f i) (f (n - 1)) high (up i (n - 1) d (omega arith)) (rw q at a)
        go false q (no d) = let g : i ≡ n - 1 = omega arith in rw g (rw q at a)

    pub ends-inside : all inside (tab n f) ≡ both (not (less (f 0) low)) (pick e true (less (f (n - 1)) high))
    ends-inside = same (all inside (tab n f)) (both (not (less (f 0) low)) (pick e true (less (f (n - 1)) high))) there back
      where
        same : (a b : Bool) → (a ≡ true → b ≡ true) → (b ≡ true → a ≡ true) → a ≡ b
        same true b u v = sym (u refl)
        same false true u v = v refl
        same false false u v = refl

        there : all inside (tab n f) ≡ true → both (not (less (f 0) low)) (pick e true (less (f (n - 1)) high)) ≡ true
        there a =
            let x = both_parts (not (less (f 0) low)) (pick e true (less (f 0) high)) (tab-all inside n f a 0 pos) in
            let y = both_parts (not (less (f (n - 1)) low)) (pick e true (less (f (n - 1)) high)) (tab-all inside n f a (n - 1) (omega arith)) in
            both_yes (not (less (f 0) low)) (pick e true (less (f (n - 1)) high)) x.0 y.1

        back : both (not (less (f 0) low)) (pick e true (less (f (n - 1)) high)) ≡ true → all inside (tab n f) ≡ true
        back b =
            let x = both_parts (not (less (f 0) low)) (pick e true (less (f (n - 1)) high)) b in
            all_tab inside n f (λ i l. both_yes (not (less (f i) low)) (pick e true (less (f i) high)) (above_low x.0 i l) (below-high x.1 i l))

-- ---- the tally of a page that was swept
pub slot_at_lem : (p : List ℕ) (i at : ℕ) (s : Slot) → s ≡ slot_at p at → at ≡ place i → suffix_of p s ≡ suffix_at p i
unfolding slot_of
slot_at_lem p i at s e q = rw (e, q)

pub entry_at : (w : ℕ) (p : List ℕ) (h : Header) (i at : ℕ) (s : Slot) → s ≡ slot_at p at → at ≡ place i → 16384 ≤ length p → held_with w p h ≡ true → i < h.count
    → 4 < s.len → 96 + s.offset + s.len ≤ length p
entry_at w p h i at s e q = entry-room p i s (rw q at e) w h

module _ (w : ℕ) (p : List ℕ) (h : Header) where
  pub inside-none : h.count ≡ 0 → true ≡ (tally_of w p h h.count).inside
  unfolding tally_of tab all
  inside-none e = rw e

  pub ends-are : (f : Fences) (first last : Slot) (a b : Bool) → (tally_of w p h h.count).rising ≡ true → 0 < h.count → FencesOf p h f
      → suffix_of p first ≡ suffix_at p 0 → suffix_of p last ≡ suffix_at p (h.count - 1)
      → a ≡ less (suffix_of p first) (suffix_of p f.low) → b ≡ less (suffix_of p last) (suffix_of p f.high)
      → not a && (eqb f.high.len 0 || b) ≡ (tally_of w p h h.count).inside
  unfolding tally_of inside_by
  ends-are f first last a b r pos F ef et ea eb =
      fenced_is a b (less (suffix_of p first) (suffix_of p f.low)) (less (suffix_of p last) (suffix_of p f.high)) f.high ea eb
      ∙ rw (F.lower, F.upper, honest-len p h.upper f.high F.high, ef, et)
      (sym (ends-inside h.count (suffix_at p) r (suffix_of p h.lower) (suffix_of p h.upper) (eqb h.upper.len 0) pos))

  pub tally-swept : (needs : ℕ) (b : Bool) → Sound w p h needs → b ≡ (tally_of w p h h.count).inside
      → ◌≡◌ {A = Tally} (record { faithful = true; inside = b; rising = true; needs = needs }) (tally_of w p h h.count)
  tally-swept needs b S e = λ k. record { faithful = sym S.faithful k; inside = e k; rising = sym S.rising k; needs = S.sum k }
