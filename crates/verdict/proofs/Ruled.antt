-- The rules that a header decides: each way out of their tests. Assumes nothing.
use Rattle.std.proofs.Common.{◌≡◌, refl, sym, ap, Bool, true, false, ◌&&◌, List, [], ◌∷◌, ℕ, ◌+◌, ◌*◌, ◌≤◌, arith, eqb}
use lib.Pointwise.{pointwise}
use Rattle.keys.specs.Choice.{both}
use Rattle.keys.specs.Keys.{same_list}
use Rattle.paper.specs.Page.{slot_of, hints_of}
use Rattle.paper.specs.Space.{fence_bytes}
use Rattle.paper.specs.Hints.{in_use, fresh}
use Rattle.paper.specs.Verdicts.{faithful}
use Rattle.paper.specs.declared.page.Slot.{Slot}
use Rattle.paper.specs.declared.page.Header.{Header}
use Rattle.node.specs.Header.{rules_of}
use Rattle.node.proofs.Rules.{rules_in}
use Rattle.verdict.specs.Tally.{honest_of, fences_faithful_with, effective_with, hints_fresh_with}

-- ---- fences
module _ (p : List ℕ) (h : Header) where
  -- by slots that have the suffixes' heads
  pub fences-true : (low high : Slot) → low ≡ honest_of p h.lower → high ≡ honest_of p h.upper
      → eqb h.lower.head low.head && eqb h.upper.head high.head ≡ fences_faithful_with p h
  unfolding fences_faithful_with faithful honest_of
  fences-true low high el eh = rw (el, eh)

-- ---- space
pub effective_is : (h : Header) (n f : ℕ) → f ≡ fence_bytes h.prefix_len h.lower.len h.upper.len → eqb h.effective (96 + f + n) ≡ effective_with h n
unfolding effective_with
effective_is h n f e = rw e

-- ---- hints
-- equality of two lists by their elements
pub pointwise_same : (a b : List ℕ) → pointwise eqb a b ≡ same_list a b
unfolding same_list
pointwise_same [] [] = refl
pointwise_same [] (y ∷ b) = refl
pointwise_same (x ∷ a) [] = refl
pointwise_same (x ∷ a) (y ∷ b) = ap (both (eqb x y)) (pointwise_same a b)

pub hints-room : (m : ℕ) (h : Header) → 16384 ≤ m → rules_of h ≡ true → 96 + 8 * h.count ≤ m
hints-room m h l e = let r = rules_in h e in omega (arith, r.start, r.order, r.top)

module _ (p : List ℕ) (h : Header) where
  pub fresh-unused : in_use h.flag h.count ≡ false → true ≡ hints_fresh_with p h
  unfolding hints_fresh_with
  fresh-unused e = sym (rw e)

  pub fresh-used : (a b : List ℕ) (t : Bool) → in_use h.flag h.count ≡ true → a ≡ hints_of p → b ≡ fresh h.count (λ i. (slot_of p i).head) → t ≡ same_list a b
      → t ≡ hints_fresh_with p h
  unfolding hints_fresh_with
  fresh-used a b t e ea eb q = rw (e, ← ea, ← eb) q
