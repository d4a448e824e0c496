-- The tally of the entries: none to begin with, and one entry more at each turn. Assumes nothing.
use Rattle.std.proofs.Common.{◌≡◌, refl, sym, ap, ◌∙◌, Bool, true, false, not, ◌&&◌, ◌||◌, List, ℕ, zero, suc, ◌+◌, ◌-◌, ◌*◌, ◌≤◌, ◌<◌, arith, add-one, eqb, length, Option, None, Some, IfSome, MatchOption}
use Rattle.octets.specs.Bytes.{IsBytes}
use Rattle.octets.proofs.Little.{le-lt}
use Rattle.keys.specs.Choice.{pick, both}
use Rattle.paper.specs.Lists.{tab, all, sum, less, below_first, rising}
use Rattle.paper.specs.Page.{place, slot_at, slot_of, suffix_of, body_bytes}
use Rattle.paper.specs.Space.{need}
use Rattle.paper.specs.Verdicts.{Piece, slot_payload, fence_piece, within, faithful}
use Rattle.paper.specs.declared.page.Slot.{Slot}
use Rattle.paper.specs.declared.page.Header.{Header}
use Rattle.paper.proofs.Lists.{length-tab, getD-tab, all-at}
use Rattle.paper.proofs.Same.{body_bytes-le, body_bytes_long}
use Rattle.paper.proofs.Fit.{within_fact}
use Rattle.node.specs.Header.{rules_of}
use Rattle.node.proofs.Rules.{rules_in}
use Rattle.verdict.specs.declared.tally.Tally.{Tally}
use Rattle.verdict.specs.declared.fences.Fences.{Fences}
use Rattle.verdict.specs.Honest.{Honest, FencesOf, LastIs, Turn}
use Rattle.verdict.specs.Pieces.{held_with}
use Rattle.search.specs.Fence.{inside_by}
use Rattle.verdict.specs.Tally.{honest_of, suffix_at, tally_of}
use Rattle.verdict.proofs.Suffixes.{honest-suffix}

-- ---- lists with one element more at the end
both_assoc : (a b c : Bool) → both a (both b c) ≡ both (both a b) c
both_assoc true b c = refl
both_assoc false b c = refl

pub both_end : (a : Bool) → both a true ≡ a
both_end true = refl
both_end false = refl

module _ {A : Type 0} where
  pub all_more : (g : A → Bool) (n : ℕ) (f : ℕ → A) → all g (tab (suc n) f) ≡ both (all g (tab n f)) (g (f n))
  unfolding all tab
  all_more g zero f = both_end (g (f 0))
  all_more g (suc n) f = ap (both (g (f 0))) (all_more g n (λ j. f (suc j))) ∙ both_assoc (g (f 0)) (all g (tab n (λ j. f (suc j)))) (g (f (suc n)))

  pub sum_more : (g : A → ℕ) (n : ℕ) (f : ℕ → A) → sum g (tab (suc n) f) ≡ sum g (tab n f) + g (f n)
  unfolding sum tab
  sum_more g zero f = omega arith
  sum_more g (suc n) f = let next = sum_more g n (λ j. f (suc j)) in omega arith

rising-more : (n : ℕ) (f : ℕ → List ℕ) → rising (tab (suc (suc n)) f) ≡ both (rising (tab (suc n) f)) (less (f n) (f (suc n)))
unfolding rising below_first tab
rising-more zero f = both_end (less (f 0) (f 1))
rising-more (suc n) f =
    ap (both (less (f 0) (f 1))) (rising-more n (λ j. f (suc j))) ∙ both_assoc (less (f 0) (f 1)) (rising (tab (suc n) (λ j. f (suc j)))) (less (f (suc n)) (f (suc (suc n))))

-- ---- the tally
pub tally-none : (w : ℕ) (p : List ℕ) (h : Header) → ◌≡◌ {A = Tally} (record { faithful = true; inside = true; rising = true; needs = 0 }) (tally_of w p h 0)
unfolding tally_of tab all sum rising
tally-none w p h = refl

pub honest-len : (p : List ℕ) (s x : Slot) → x ≡ honest_of p s → x.len ≡ s.len
unfolding honest_of
honest-len p s x e = rw e

-- within the fences, as code tests it
pub fenced_is : (a b x y : Bool) (high : Slot) → a ≡ x → b ≡ y → not a && (eqb high.len 0 || b) ≡ both (not x) (pick (eqb high.len 0) true y)
fenced_is a b x y high e f = rw (e, f) (ap (both (not x)) (or-pick (eqb high.len 0) y))
  where
    or-pick : (t z : Bool) → (t || z) ≡ pick t true z
    or-pick true z = refl
    or-pick false z = refl

-- the same by the fences of a page
pub fenced-by : (p : List ℕ) (h : Header) (f : Fences) (s : Slot) (a b : Bool) → FencesOf p h f → a ≡ less (suffix_of p s) (suffix_of p f.low)
    → b ≡ less (suffix_of p s) (suffix_of p f.high) → not a && (eqb f.high.len 0 || b) ≡ inside_by p h (suffix_of p s)
unfolding inside_by
fenced-by p h f s a b F ea eb =
    fenced_is a b _ _ f.high ea eb ∙ rw (F.lower, F.upper, honest-len p h.upper f.high F.high)

-- rising, where b compares with the entry before, if there is one
pub rising_next : (n : ℕ) (f : ℕ → List ℕ) (b : Bool) → (n ≡ 0 → b ≡ true) → (0 < n → b ≡ less (f (n - 1)) (f n)) → rising (tab n f) && b ≡ rising (tab (suc n) f)
unfolding rising below_first tab
rising_next zero f b z e = z refl
rising_next (suc n) f b z e =
    let m : suc n - 1 ≡ n = omega arith in
    rw (e (omega arith), m) (sym (rising-more n f))

-- ---- one turn
module _ (p : List ℕ) (bytes : IsBytes p) where
  suffix-is : (i : ℕ) (s : Slot) → s ≡ honest_of p (slot_of p i) → suffix_of p s ≡ suffix_at p i
  unfolding slot_of
  suffix-is i s e = rw e (honest-suffix p (slot_of p i) (le-lt 4 p (place i + 4) bytes))

  module _ (w : ℕ) (h : Header) (i : ℕ) (f : Fences) (last : Option Slot) (s : Slot) (t : Tally) (turn : Turn w p h i f last s t) where
    faithful-turn : (stored : Slot) → stored ≡ slot_of p i → t.faithful && eqb stored.head s.head ≡ (tally_of w p h (suc i)).faithful
    unfolding tally_of honest_of faithful
    faithful-turn stored e = rw (e, turn.slot, turn.tally) (sym (all_more (λ s. faithful s (suffix_of p s)) i (slot_of p)))

    inside-turn : (x : Bool) → x ≡ inside_by p h (suffix_of p s) → t.inside && x ≡ (tally_of w p h (suc i)).inside
    unfolding tally_of
    inside-turn x e = rw (turn.tally, e, suffix-is i s turn.slot) (sym (all_more (inside_by p h) i (suffix_at p)))

    rising-turn : (b : Bool) → MatchOption last (b ≡ true) (λ l. b ≡ less (suffix_of p l) (suffix_of p s)) → t.rising && b ≡ (tally_of w p h (suc i)).rising
    unfolding tally_of
    rising-turn b e = rw turn.tally (go last turn.before e)
      where
        go : (x : Option Slot) → LastIs p i x → MatchOption x (b ≡ true) (λ l. b ≡ less (suffix_of p l) (suffix_of p s)) → rising (tab i (suffix_at p)) && b ≡ rising (tab (suc i) (suffix_at p))
        go None z q = rising_next i (suffix_at p) b (λ k. q) (λ k. absurd (omega arith))
        go (Some l) z q = rising_next i (suffix_at p) b (λ k. absurd (omega (arith, z.0))) (λ k. q ∙ rw (suffix-is (i - 1) l z.1, suffix-is i s turn.slot))

    needs-turn : (n : ℕ) → n ≡ body_bytes 4 s.len → t.needs + (8 + w + n) ≡ (tally_of w p h (suc i)).needs
    unfolding tally_of honest_of need
    needs-turn n e = rw (turn.tally, e, turn.slot) (sym (sum_more (λ (s : Slot). need w s.len) i (slot_of p)))

    pub tally-turn : (stored : Slot) (x b : Bool) (n : ℕ) → stored ≡ slot_at p (place i) → x ≡ inside_by p h (suffix_of p s)
        → MatchOption last (b ≡ true) (λ l. b ≡ less (suffix_of p l) (suffix_of p s)) → n ≡ body_bytes 4 s.len
        → ◌≡◌ {A = Tally} (record {
          faithful = t.faithful && eqb stored.head s.head;
          inside = t.inside && x;
          rising = t.rising && b;
          needs = t.needs + (8 + w + n);
        }) (tally_of w p h (i + 1))
    unfolding slot_of
    tally-turn stored x b n e ef eb en =
        let first = faithful-turn stored e in
        let second = inside-turn x ef in
        let third = rising-turn b eb in
        let fourth = needs-turn n en in
        rw (add-one i) (λ k. record { faithful = first k; inside = second k; rising = third k; needs = fourth k })

-- ---- the needs stay small
sum-most : (g : Slot → ℕ) (f : ℕ → Slot) → ((j : ℕ) → g (f j) ≤ 65798) → (n : ℕ) → sum g (tab n f) ≤ n * 65798
unfolding sum tab
sum-most g f h zero = omega arith
sum-most g f h (suc n) = let first = h 0 in let rest = sum-most g (λ j. f (suc j)) (λ j. h (suc j)) n in omega arith

pub needs_most : (w : ℕ) (p : List ℕ) → IsBytes p → (h : Header) (i : ℕ) (t : Tally) → w < 256 → i < 2032 → t ≡ tally_of w p h i → t.needs ≤ 133701536
unfolding tally_of need slot_of
needs_most w p b h i t l k e =
    let m = sum-most (λ (s : Slot). need w s.len) (slot_of p) (λ j. omega (arith, body_bytes-le 4 (slot_of p j).len, le-lt 2 p (place j) b)) i in
    rw e (omega arith)

-- ---- where suffixes lie
pub fence_rooms : (m : ℕ) (h : Header) → 16384 ≤ m → rules_of h ≡ true
    → (4 < h.lower.len → 96 + h.lower.offset + h.lower.len ≤ m) × (4 < h.upper.len → 96 + h.upper.offset + h.upper.len ≤ m)
unfolding fence_piece
fence_rooms m h l e =
    let r = rules_in h e in (
      λ q. omega (arith, (r.lower q).1, body_bytes_long 4 h.lower.len q),
      λ q. omega (arith, (r.upper q).1, body_bytes_long 4 h.upper.len q),
    )

module _ (p : List ℕ) (i : ℕ) (stored : Slot) (e : stored ≡ slot_at p (place i)) where
  pub entry-room : (w : ℕ) (h : Header) → 16384 ≤ length p → held_with w p h ≡ true → i < h.count → 4 < stored.len → 96 + stored.offset + stored.len ≤ length p
  unfolding held_with slot_of
  entry-room w h l held k =
      let f : ℕ → Piece = λ j. slot_payload w (slot_of p j) in
      let d : Piece = record { lo = 0; hi = 0 } in
      let a = all-at (within h.end) (tab h.count f) held i d (rw (length-tab h.count f) k) in
      let b : within h.end (f i) ≡ true = rw (← getD-tab h.count f i d k) a in
      rw e (λ q. omega (arith, (within_fact h.end (f i) b).1, body_bytes_long 4 (slot_at p (place i)).len q))

  -- the slot that a turn weighs, and that the next turn looks back at
  pub weighed-is : (s : Slot) → s ≡ honest_of p stored → s ≡ honest_of p (slot_of p i)
  unfolding slot_of
  weighed-is s q = rw (← e) q

  pub last-is : (s : Slot) → s ≡ honest_of p stored → s ≡ honest_of p (slot_of p (i + 1 - 1))
  last-is s q = let n : i + 1 - 1 ≡ i = omega arith in rw n (weighed-is s q)

pub last-honest : (p : List ℕ) (i : ℕ) (x : Option Slot) → LastIs p i x → IfSome x (Honest p)
last-honest p i None z = tt
last-honest p i (Some l) z = z.2

pub count_most : (h : Header) (i : ℕ) → rules_of h ≡ true → i < h.count → i < 2032
count_most h i e l = let r = rules_in h e in omega (arith, r.start, r.order, r.top)
