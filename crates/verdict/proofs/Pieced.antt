-- U2 and the pieces by a header: what a turn of the loop over slots says, which piece stands at a place, and that with the page's own header they are
-- the paper's. Assumes nothing.
use Rattle.std.proofs.Common.{◌≡◌, refl, sym, ap, ◌∙◌, Bool, true, false, List, [], ◌∷◌, ◌++◌, map, ℕ, zero, suc, ◌+◌, ◌*◌, ◌≤◌, ◌<◌, zero-add, arith, lt-ltb, le-ltb, eq-eqb, ne_eqb, Ok, Err}
use Rattle.std.proofs.lemmas.Bool.{both_ways}
use native.Mathlib.Decide.{dec_lt, dec_le}
use Rattle.keys.specs.Choice.{pick}
use Rattle.paper.specs.Lists.{tab, all, pairs}
use Rattle.paper.specs.Page.{slot_at, place, slot_of, row_of, frame_of, numbers_of, header_of, view_of, body_bytes}
use Rattle.paper.specs.Verdicts.{Piece, payload, slot_payload, fence_piece, prefix_piece, frame_pieces, within, apart, u2, u3}
use Rattle.paper.specs.Refusals.{judge}
use Rattle.paper.specs.declared.page.Slot.{Slot}
use Rattle.paper.specs.declared.page.Header.{Header}
use Rattle.paper.specs.declared.refusal.Refusal.{Refusal}
use Rattle.paper.proofs.Lists.{all-at, all_of, length-tab, getD-tab, tab-ext}
use Rattle.paper.proofs.Same.{body_bytes_short}
use Rattle.paper.proofs.Fit.{Lie, within_fact}
use Rattle.node.specs.Header.{rules_of}
use Rattle.node.specs.Admit.{slot_checks, slot_read_of}
use Rattle.node.proofs.Rules.{rules_in}
use Rattle.node.proofs.Admits.{slot-judge, slot-refused}
use Rattle.verdict.specs.Pieces.{held_with, piece_at, disjoint_with}

-- ---- a table and its elements
module _ {A : Type 0} where
  pub tab-all : (f : A → Bool) (n : ℕ) (g : ℕ → A) → all f (tab n g) ≡ true → (i : ℕ) → i < n → f (g i) ≡ true
  tab-all f n g e i l = rw (getD-tab n g i (g 0) l) at (all-at f (tab n g) e i (g 0) (rw (length-tab n g) l))

  pub all_tab : (f : A → Bool) (n : ℕ) (g : ℕ → A) → ((i : ℕ) → i < n → f (g i) ≡ true) → all f (tab n g) ≡ true
  all_tab f n g h = all_of f (tab n g) (g 0) (λ i l. let k : i < n = rw (length-tab n g) at l in rw (getD-tab n g i (g 0) k) (h i k))

  pub map-tab : {B : Type 0} (g : A → B) (n : ℕ) (f : ℕ → A) → map g (tab n f) ≡ tab n (λ i. g (f i))
  unfolding tab
  map-tab g zero f = refl
  map-tab g (suc n) f = ap (λ r. g (f 0) ∷ r) (map-tab g n (λ j. f (suc j)))

  pub tab-append : (n m : ℕ) (f : ℕ → A) → tab (n + m) f ≡ tab n f ++ tab m (λ j. f (n + j))
  unfolding tab
  tab-append zero m f = rw (zero-add m) (tab-ext m f (λ j. f (0 + j)) (λ j l. ap f (omega arith)))
  tab-append (suc n) m f =
      let e : suc n + m ≡ suc (n + m) = omega arith in
      rw e
      (ap (λ r. f 0 ∷ r)
      (tab-append n m (λ j. f (suc j)) ∙ ap (λ r. tab n (λ j. f (suc j)) ++ r) (tab-ext m (λ j. f (suc (n + j))) (λ j. f (suc n + j)) (λ j l. ap f (omega arith)))))

-- ---- U2
module _ (w : ℕ) (p : List ℕ) (h : Header) where
  abbrev pub Holds : ℕ → Type 0
  Holds i = within h.end (slot_payload w (slot_of p i)) ≡ true

  pub held-slot : held_with w p h ≡ true → (i : ℕ) → i < h.count → Holds i
  unfolding held_with
  held-slot e i l = tab-all (within h.end) h.count (λ i. slot_payload w (slot_of p i)) e i l

  pub held_all : (n : ℕ) → h.count ≤ n → ((i : ℕ) → i < n → Holds i) → held_with w p h ≡ true
  unfolding held_with
  held_all n l f = all_tab (within h.end) h.count (λ i. slot_payload w (slot_of p i)) (λ i k. f i (omega arith))

  pub held_none : (i : ℕ) → i < 0 → Holds i
  held_none i l = absurd (omega arith)

  -- the tests of slot n as a test
  visit-test : (n : ℕ) → n < h.count → judge (slot_checks w p h.count h.end n) true (λ q. false) ≡ within h.end (slot_payload w (slot_of p n))
  unfolding judge
  visit-test n l = rw (lt-ltb n h.count l) (same (within h.end (slot_payload w (slot_of p n))))
    where
      same : (b : Bool) → pick b true false ≡ b
      same true = refl
      same false = refl

  -- a slot that may be visited is one more that holds
  pub held_more : (n : ℕ) (s : Slot) → n < h.count → ((i : ℕ) → i < n → Holds i) → slot_read_of w p h.count h.end n ≡ Ok s → (i : ℕ) → i < n + 1 → Holds i
  held_more n s l f e i k = go (dec_lt i n)
    where
      go : Dec (i < n) → Holds i
      go (yes m) = f i m
      go (no m) =
          let q : n ≡ i = omega arith in
          rw q at (sym (visit-test n l) ∙ slot-judge w p h.count h.end n s e true (λ r. false))

  -- and one that may not breaks the rule
  pub held-not : (n : ℕ) (q : Refusal) → n < h.count → slot_read_of w p h.count h.end n ≡ Err q → held_with w p h ≡ false
  held-not n q l e = go (held_with w p h) refl
    where
      go : (b : Bool) → held_with w p h ≡ b → b ≡ false
      go true f = absurd (both_ways true (sym (held-slot f n l) ∙ sym (visit-test n l) ∙ slot-refused w p h.count h.end n q e true (λ r. false)) refl)
      go false f = refl

-- ---- the piece at a place
-- s was read at the slot's place, and its suffix takes n bytes of the body
pub payload_is : (w : ℕ) (p : List ℕ) (i : ℕ) (s : Slot) (n : ℕ) → s ≡ slot_at p (place i) → n ≡ body_bytes 4 s.len
    → (s.offset ≡ (slot_payload w (slot_of p i)).lo) × (s.offset + (n + w) ≡ (slot_payload w (slot_of p i)).hi)
unfolding slot_of
payload_is w p i s n e f = (ap (λ (t : Slot). t.offset) e, rw f (ap (λ (t : Slot). t.offset + (body_bytes 4 t.len + w)) e))

module _ (w : ℕ) (p : List ℕ) (h : Header) (j : ℕ) where
  pub piece-payload : j < h.count → piece_at w p h j ≡ slot_payload w (slot_of p j)
  unfolding piece_at
  piece-payload l = rw (lt-ltb j h.count l)

  pub piece-prefix : j ≡ h.count → piece_at w p h j ≡ prefix_piece h.prefix_len
  unfolding piece_at
  piece-prefix e = rw (le-ltb j h.count (omega arith), eq-eqb j h.count e)

  pub piece-lower : j ≡ h.count + 1 → piece_at w p h j ≡ fence_piece h.lower
  unfolding piece_at
  piece-lower e = rw (le-ltb j h.count (omega arith), ne_eqb j h.count (λ k. omega arith), eq-eqb j (h.count + 1) e)

  pub piece-upper : h.count + 1 < j → piece_at w p h j ≡ fence_piece h.upper
  unfolding piece_at
  piece-upper l = rw (le-ltb j h.count (omega arith), ne_eqb j h.count (λ k. omega arith), ne_eqb j (h.count + 1) (λ k. omega arith))

-- ---- on a page with the header rules and U2 each piece that is not empty lies in the body
abbrev pub InBody : Piece → Type 0
InBody a = a.lo < a.hi → a.hi ≤ 16256

fence_body : (e : ℕ) (s : Slot) → (4 < s.len → Lie e (fence_piece s)) → InBody (fence_piece s)
unfolding fence_piece
fence_body e s f l = go (dec_le s.len 4)
  where
    go : Dec (s.len ≤ 4) → s.offset + body_bytes 4 s.len ≤ 16256
    go (yes k) = absurd (omega (arith, body_bytes_short 4 s.len k))
    go (no k) = (f (omega arith)).1

prefix_body : (n : ℕ) → InBody (prefix_piece n)
unfolding prefix_piece
prefix_body n l = omega arith

pub piece_body : (w : ℕ) (p : List ℕ) (h : Header) (j : ℕ) → rules_of h ≡ true → held_with w p h ≡ true → InBody (piece_at w p h j)
piece_body w p h j r e = go (dec_lt j h.count) (dec_le j h.count) (dec_le j (h.count + 1))
  where
    go : Dec (j < h.count) → Dec (j ≤ h.count) → Dec (j ≤ h.count + 1) → InBody (piece_at w p h j)
    go (yes k) b c = rw (piece-payload w p h j k) (λ l. (within_fact h.end (slot_payload w (slot_of p j)) (held-slot w p h e j k)).1)
    go (no k) (yes b) c = rw (piece-prefix w p h j (omega arith)) (prefix_body h.prefix_len)
    go (no k) (no b) (yes c) = rw (piece-lower w p h j (omega arith)) (fence_body h.end h.lower (rules_in h r).lower)
    go (no k) (no b) (no c) = rw (piece-upper w p h j (omega arith)) (fence_body h.end h.upper (rules_in h r).upper)

-- ---- what the rules say to code
pub slots_lie : (h : Header) → rules_of h ≡ true → 8 * h.count ≤ 16256
slots_lie h r = let R = rules_in h r in omega (arith, R.start, R.order, R.top)

-- ---- with the page's own header
listed : (w : ℕ) (p : List ℕ) (h : Header)
    → tab (h.count + 3) (piece_at w p h)
    ≡ tab h.count (λ i. slot_payload w (slot_of p i)) ++ (prefix_piece h.prefix_len ∷ fence_piece h.lower ∷ fence_piece h.upper ∷ [])
unfolding tab
listed w p h =
    tab-append h.count 3 (piece_at w p h)
    ∙ rw (
      tab-ext h.count (piece_at w p h) (λ i. slot_payload w (slot_of p i)) (λ i l. piece-payload w p h i l),
      piece-prefix w p h (h.count + 0) (omega arith),
      piece-lower w p h (h.count + 1) refl,
      piece-upper w p h (h.count + 2) (omega arith),
    )

pub u2_is : (w : ℕ) (p : List ℕ) → u2 w (view_of w p) ≡ held_with w p (header_of p)
unfolding u2 view_of held_with header_of payload row_of
u2_is w p = rw (map-tab (payload w) (numbers_of p).count (λ i. row_of w p (slot_of p i)))

pub u3_is : (w : ℕ) (p : List ℕ) → u3 w (view_of w p) ≡ disjoint_with w p (header_of p)
unfolding u3 view_of disjoint_with header_of payload row_of
u3_is w p =
    ap (λ r. pairs apart (r ++ frame_pieces (frame_of p))) (map-tab (payload w) (numbers_of p).count (λ i. row_of w p (slot_of p i)))
    ∙ ap (pairs apart) (sym (listed w p (header_of p)))
