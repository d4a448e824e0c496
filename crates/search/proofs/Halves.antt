-- Halving over slots, turn by turn. Assumes nothing.
use Rattle.std.proofs.Common.{◌≡◌, refl, sym, ap, ◌∙◌, Bool, true, false, List, ℕ, ◌+◌, ◌-◌, ◌≤◌, ◌<◌, arith, eqb, eqb-true, eq-eqb, Ok, Err, Option, Some, None}
use Rattle.std.proofs.lemmas.Bool.{both_ways}
use Rattle.paper.specs.Searches.{middle, turn, passed}
use Rattle.paper.specs.declared.refusal.Refusal.{Refusal}
use Rattle.paper.proofs.Halving.{halving-end, halving-turn}
use Rattle.search.specs.Slot.{met_at, halved, Ends}
use Rattle.std.specs.Option.{option_eq}
use Rattle.std.specs.declared.cmp.Ordering.{Ordering}
use Rattle.std.specs.declared.cmp.Ordering.TheVariants.{Less, Equal, Greater}
use Rattle.search.specs.declared.halve.Halved.TheVariants.{Same as Halved-as-Same, Above as Halved-as-Above, Unmet as Halved-as-Unmet}

module _ (u : Bool) (w : ℕ) (p : List ℕ) (end : ℕ) (x : List ℕ) (lo hi : ℕ) where
  pub halved-end : hi ≤ lo → halved u w p end x lo hi ≡ Ok lo
  unfolding halved
  halved-end h = halving-end (turn u) Ok (hi - lo) (met_at w p end x) lo hi h

  pub halved-refused : (q : Refusal) → lo < hi → met_at w p end x (middle lo hi) ≡ Err q → halved u w p end x lo hi ≡ Err q
  unfolding halved turn
  halved-refused q h e = halving-turn (turn u) Ok (met_at w p end x) lo hi h ∙ rw e

  halved-up : (o : Ordering) → lo < hi → met_at w p end x (middle lo hi) ≡ Ok o → passed u o ≡ true → halved u w p end x lo hi ≡ halved u w p end x (middle lo hi + 1) hi
  unfolding halved turn
  halved-up o h e k = halving-turn (turn u) Ok (met_at w p end x) lo hi h ∙ rw (e, k)

  halved-down : (o : Ordering) → lo < hi → met_at w p end x (middle lo hi) ≡ Ok o → passed u o ≡ false → halved u w p end x lo hi ≡ halved u w p end x lo (middle lo hi)
  unfolding halved turn
  halved-down o h e k = halving-turn (turn u) Ok (met_at w p end x) lo hi h ∙ rw (e, k)

  -- by how the middle slot meets the probe
  pub halved-below : lo < hi → met_at w p end x (middle lo hi) ≡ Ok Less → halved u w p end x lo hi ≡ halved u w p end x (middle lo hi + 1) hi
  unfolding passed
  halved-below h e = halved-up Less h e refl

  pub halved-passed : lo < hi → met_at w p end x (middle lo hi) ≡ Ok Equal → u ≡ true → halved u w p end x lo hi ≡ halved u w p end x (middle lo hi + 1) hi
  unfolding passed
  halved-passed h e k = halved-up Equal h e k

  pub halved-equal : lo < hi → met_at w p end x (middle lo hi) ≡ Ok Equal → u ≡ false → halved u w p end x lo hi ≡ halved u w p end x lo (middle lo hi)
  unfolding passed
  halved-equal h e k = halved-down Equal h e k

  pub halved-above : lo < hi → met_at w p end x (middle lo hi) ≡ Ok Greater → halved u w p end x lo hi ≡ halved u w p end x lo (middle lo hi)
  unfolding passed
  halved-above h e = halved-down Greater h e refl

-- ---- the slot that halving goes down to
-- hi is the end, or a slot that was met: as equal where it is same, which never lies below it, else as above
module _ (w : ℕ) (p : List ℕ) (end : ℕ) (x : List ℕ) (high : ℕ) where
  pub record Last (hi : ℕ) (same : Option ℕ) : Type 0 where
    pub after : (m : ℕ) → same ≡ Some m → hi ≤ m
    pub equal : hi < high → same ≡ Some hi → met_at w p end x hi ≡ Ok Equal
    pub above : hi < high → (same ≡ Some hi → ⊥) → met_at w p end x hi ≡ Ok Greater

  pub last_none : Last high None
  last_none = record { after = λ m k. absurd (none-some m k); equal = λ l k. absurd (omega arith); above = λ l k. absurd (omega arith) }
    where
      none-some : (m : ℕ) → ◌≡◌ {A = Option ℕ} None (Some m) → ⊥
      none-some m k = let z : ◌≡◌ {A = ℕ} 0 1 = cc in omega arith

  pub last-equal : (m : ℕ) → met_at w p end x m ≡ Ok Equal → Last m (Some m)
  last-equal m e = record { after = λ k q. let z : m ≡ k = cc in omega arith; equal = λ l k. e; above = λ l k. absurd (k refl) }

  pub last-above : (hi m : ℕ) (same : Option ℕ) → Last hi same → m < hi → met_at w p end x m ≡ Ok Greater → Last m same
  last-above hi m same L l e =
      record {
        after = λ k q. let a = L.after k q in omega arith;
        equal = λ _ q. let a = L.after m q in absurd (omega arith);
        above = λ _ _. e;
      }

  -- ---- the ways out: lo has come up to hi
  module _ (u : Bool) (low lo hi : ℕ) (same : Option ℕ) (h : lo ≤ hi) (t : hi ≤ high) (e : halved u w p end x low high ≡ halved u w p end x lo hi) (L : Last hi same) (f : hi ≤ lo) where
    one : lo ≡ hi
    one = omega arith

    at : halved u w p end x low high ≡ Ok lo
    at = e ∙ halved-end u w p end x lo hi f

    pub ends-unmet : lo ≡ high → Ends u w p end x low high (Ok (Halved-as-Unmet lo))
    ends-unmet k = at

    pub ends_same : (lo ≡ high → ⊥) → same ≡ Some lo → Ends u w p end x low high (Ok (Halved-as-Same lo))
    ends_same k s = let l : lo < high = below k in (at, l, rw one (L.equal (rw (← one) l) (s ∙ ap Some one)))
      where
        below : (lo ≡ high → ⊥) → lo < high
        below k = omega arith

    pub ends_above : (lo ≡ high → ⊥) → (same ≡ Some lo → ⊥) → Ends u w p end x low high (Ok (Halved-as-Above lo))
    ends_above k s = let l : lo < high = omega arith in (at, l, rw one (L.above (omega arith) (λ e. s (e ∙ ap Some (sym one)))))

-- ---- the test of the slot that was met last
pub met-last : (same : Option ℕ) (i : ℕ) → option_eq eqb same (Some i) ≡ true → same ≡ Some i
met-last None i e = absurd (both_ways false refl e)
met-last (Some m) i e = ap Some (eqb-true m i e)

pub not-last : (same : Option ℕ) (i : ℕ) → option_eq eqb same (Some i) ≡ false → same ≡ Some i → ⊥
not-last same i e k = absurd (both_ways (option_eq eqb same (Some i)) e (rw k (eq-eqb i i refl)))

pub ruleset halvings = (halved-refused, halved-below, halved-passed, halved-equal, halved-above, last_none, last-equal, last-above, ends-unmet, ends_same, ends_above, met-last, not-last)
