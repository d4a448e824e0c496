-- The neighbours of a slot as code meets them, suffix by suffix; on a fit page, for a key inside the fences, they are the paper's `between`, since all
-- keys share the prefix. Assumes nothing.
use Rattle.std.proofs.Common.{◌≡◌, refl, sym, ap, ◌∙◌, Bool, true, false, List, [], ◌++◌, ℕ, ◌+◌, ◌-◌, ◌≤◌, ◌<◌, arith, eq-eqb, ne_eqb, le-leb, leb-false, leb, eqb, length, get_or}
use borrow.Author.Tests.{lt-leb}
use Rattle.octets.specs.Bytes.{IsBytes}
use Rattle.keys.specs.Choice.{pick}
use Rattle.keys.proofs.Orders.{order-append}
use Rattle.paper.specs.Lists.{less}
use Rattle.paper.specs.Page.{slot_at, place, slot_of, suffix_of, frame_of, numbers_of, view_of}
use Rattle.paper.specs.Verdicts.{inside}
use Rattle.paper.specs.Listing.{listing, keys}
use Rattle.paper.specs.Searches.{probe_suffix}
use Rattle.paper.specs.Calls.{between}
use Rattle.paper.specs.declared.page.Slot.{Slot}
use Rattle.paper.proofs.Same.{body_bytes_long}
use Rattle.paper.proofs.Fit.{Fit, placed}
use Rattle.paper.proofs.Filing.{whole-key}
use Rattle.paper.proofs.Searching.{key-at, length-keys}
use Rattle.edit.specs.Changed.{Lying, above_previous, below_next, between_by}
use Rattle.std.specs.Ordering.{is_lt}

-- ---- the slot before, and the slot after; s is that slot as it was read
module _ (p x : List ℕ) (i : ℕ) where
  pub none_before : i ≡ 0 → true ≡ above_previous p i x
  unfolding above_previous
  none_before e = rw (eq-eqb i 0 e)

  pub one-before : (i ≡ 0 → ⊥) → (s : Slot) (r : Bool) → s ≡ slot_at p (place (i - 1)) → r ≡ less (suffix_of p s) x → r ≡ above_previous p i x
  unfolding above_previous slot_of
  one-before f s r e g = rw (ne_eqb i 0 f, ← e) g

  pub none_after : (n : ℕ) → n ≤ i + 1 → true ≡ below_next p n i x
  unfolding below_next
  none_after n h = rw (le-leb n (i + 1) h)

  pub one-after : (n : ℕ) → i + 1 < n → (s : Slot) (r : Bool) → s ≡ slot_at p (place (i + 1)) → r ≡ less x (suffix_of p s) → r ≡ below_next p n i x
  unfolding below_next slot_of
  one-after n h s r e g = rw (lt-leb n (i + 1) h, ← e) g

  -- both; a and b are what was found of each
  module _ (n : ℕ) (a : Bool) (e : a ≡ above_previous p i x) where
    pub not-above : a ≡ false → false ≡ between_by p n i x
    unfolding between_by
    not-above f = rw (← e, f)

    pub above : a ≡ true → (b : Bool) → b ≡ below_next p n i x → b ≡ between_by p n i x
    unfolding between_by
    above f b g = rw (← e, f, ← g)

-- what the slot that is read asks for
pub lying : (p : List ℕ) (n j : ℕ) (s : Slot) → Lying p n → j < n → s ≡ slot_at p (place j) → 4 < s.len → 96 + s.offset + s.len ≤ length p
unfolding slot_of
lying p n j s L h e = rw e (L j h)

pub ruleset by_neighbours = (none_before, one-before, none_after, one-after, not-above, above)

-- ---- on a fit page
module _ (w : ℕ) (p : List ℕ) (size : length p ≡ 16384) (F : Fit w (view_of w p)) where
  pub all-lying : Lying p (numbers_of p).count
  all-lying j h l = let x = ((placed w p F).rows j h).1 in omega (arith, size, x, body_bytes_long 4 (slot_of p j).len l)

  module _ (b : IsBytes p) (k : List ℕ) (fenced : inside (frame_of p) k ≡ true) (i : ℕ) (there : i < (numbers_of p).count) where
    abbrev n : ℕ
    n = (numbers_of p).count

    abbrev s : List ℕ
    s = probe_suffix (frame_of p) k

    -- the key of slot j
    abbrev K : ℕ → List ℕ
    K j = (frame_of p).prefix ++ suffix_of p (slot_of p j)

    slot-key : (j : ℕ) → less (K j) k ≡ less (suffix_of p (slot_of p j)) s
    unfolding less
    slot-key j = ap (λ (a : List ℕ). less (K j) a) (sym (whole-key w p size F k fenced)) ∙ ap is_lt (order-append (frame_of p).prefix (suffix_of p (slot_of p j)) s)

    key-slot : (j : ℕ) → less k (K j) ≡ less s (suffix_of p (slot_of p j))
    unfolding less
    key-slot j = ap (λ (a : List ℕ). less a (K j)) (sym (whole-key w p size F k fenced)) ∙ ap is_lt (order-append (frame_of p).prefix s (suffix_of p (slot_of p j)))

    before-is : pick (eqb i 0) true (less (get_or (keys (listing w p)) (i - 1) []) k) ≡ above_previous p i s
    unfolding above_previous
    before-is = go (eqb i 0)
      where
        go : (t : Bool) → pick t true (less (get_or (keys (listing w p)) (i - 1) []) k) ≡ pick t true (less (suffix_of p (slot_of p (i - 1))) s)
        go true = refl
        go false = rw (key-at w p size b F (i - 1) (omega arith) []) (slot-key (i - 1))

    after_is : pick (leb (length (keys (listing w p))) (i + 1)) true (less k (get_or (keys (listing w p)) (i + 1) [])) ≡ below_next p n i s
    unfolding below_next
    after_is = rw (length-keys w p size b F) (go (leb n (i + 1)) refl)
      where
        go : (t : Bool) → leb n (i + 1) ≡ t
            → pick t true (less k (get_or (keys (listing w p)) (i + 1) [])) ≡ pick t true (less s (suffix_of p (slot_of p (i + 1))))
        go true q = refl
        go false q = rw (key-at w p size b F (i + 1) (leb-false n (i + 1) q) []) (key-slot (i + 1))

    pub between_is : between (keys (listing w p)) i k ≡ between_by p n i s
    unfolding between between_by
    between_is = rw (before-is, after_is)
