-- A search's end: what halving met at the bound is what find's test would meet, and a bound that was not met is tested or told as it is.
-- Assumes nothing.
use Rattle.std.proofs.Common.{◌≡◌, sym, Bool, false, List, ℕ, ◌≤◌, ◌<◌, arith, lt-ltb, le-ltb, Result, Ok, Err}
use Rattle.keys.specs.Keys.{head_of}
use Rattle.paper.specs.Page.{header_of}
use Rattle.paper.specs.Searches.{tested}
use Rattle.paper.specs.declared.refusal.Refusal.{Refusal}
use Rattle.search.specs.Slot.{met_at, met_alone}
use Rattle.search.specs.Bounds.{searched}
use Rattle.search.specs.Finds.{tested_at, find_in, SearchEnds}
use Rattle.search.proofs.Meets.{alone-there}
use Rattle.search.proofs.Bounded.{window-lies}
use Rattle.std.specs.declared.cmp.Ordering.{Ordering}
use Rattle.paper.specs.declared.answers.Found.{Found}
use Rattle.std.specs.declared.cmp.Ordering.TheVariants.{Less, Equal, Greater}
use Rattle.paper.specs.declared.answers.Found.TheVariants.{Equal as Found-as-Equal, Smaller}
use Rattle.search.specs.declared.halve.Halved.TheVariants.{Same as Halved-as-Same, Above as Halved-as-Above, Unmet as Halved-as-Unmet}

module _ (w : ℕ) (p x : List ℕ) where
  -- ---- a bound that was not met
  module _ (i : ℕ) where
    pub unmet-none : (header_of p).count ≤ i → tested_at w p (header_of p) x (Ok i) ≡ Ok (Smaller i)
    unfolding tested_at
    unmet-none l = rw (le-ltb i (header_of p).count l)

    -- r is how the slot there meets the suffix
    unmet-there : (r : Result Ordering Refusal) → i < (header_of p).count → r ≡ met_alone w p (header_of p).count (header_of p).end x i → tested_at w p (header_of p) x (Ok i) ≡ tested i r
    unfolding tested_at
    unmet-there r l e = rw (lt-ltb i (header_of p).count l, e)

    pub unmet-refused : (q : Refusal) → met_alone w p (header_of p).count (header_of p).end x i ≡ Err q → i < (header_of p).count → tested_at w p (header_of p) x (Ok i) ≡ Err q
    unfolding tested
    unmet-refused q e l = unmet-there (Err q) l (sym e)

    pub unmet-equal : met_alone w p (header_of p).count (header_of p).end x i ≡ Ok Equal → i < (header_of p).count → tested_at w p (header_of p) x (Ok i) ≡ Ok (Found-as-Equal i)
    unfolding tested
    unmet-equal e l = unmet-there (Ok Equal) l (sym e)

    pub unmet-less : met_alone w p (header_of p).count (header_of p).end x i ≡ Ok Less → i < (header_of p).count → tested_at w p (header_of p) x (Ok i) ≡ Ok (Smaller i)
    unfolding tested
    unmet-less e l = unmet-there (Ok Less) l (sym e)

    pub unmet-greater : met_alone w p (header_of p).count (header_of p).end x i ≡ Ok Greater → i < (header_of p).count → tested_at w p (header_of p) x (Ok i) ≡ Ok (Smaller i)
    unfolding tested
    unmet-greater e l = unmet-there (Ok Greater) l (sym e)

  -- ---- a slot that was met: o is how
  met-tested : (o : Ordering) (i : ℕ) → i < (header_of p).count → met_at w p (header_of p).end x i ≡ Ok o → tested_at w p (header_of p) x (Ok i) ≡ tested i (Ok o)
  unfolding tested_at
  met-tested o i l e = rw (lt-ltb i (header_of p).count l, alone-there w p (header_of p).count (header_of p).end x i l, e)

  -- ---- the bound that a search ended at
  module _ (u : Bool) where
    pub seeks-refused : (q : Refusal) → SearchEnds u w p x (Err q) → searched u w p (header_of p) x ≡ Err q
    unfolding searched
    seeks-refused q E = E

    pub seeks-same : (i : ℕ) → SearchEnds u w p x (Ok (Halved-as-Same i)) → searched u w p (header_of p) x ≡ Ok i
    unfolding searched
    seeks-same i E = E.0

    pub seeks-above : (i : ℕ) → SearchEnds u w p x (Ok (Halved-as-Above i)) → searched u w p (header_of p) x ≡ Ok i
    unfolding searched
    seeks-above i E = E.0

    pub seeks-unmet : (i : ℕ) → SearchEnds u w p x (Ok (Halved-as-Unmet i)) → searched u w p (header_of p) x ≡ Ok i
    unfolding searched
    seeks-unmet i E = E

  -- ---- and what find says there
  pub finds-refused : (q : Refusal) → SearchEnds false w p x (Err q) → find_in w p (header_of p) x ≡ Err q
  unfolding find_in tested_at
  finds-refused q E = rw (seeks-refused false q E)

  pub finds-same : (i : ℕ) → SearchEnds false w p x (Ok (Halved-as-Same i)) → find_in w p (header_of p) x ≡ Ok (Found-as-Equal i)
  unfolding find_in tested
  finds-same i E =
      let l = (window-lies p (header_of p).flag (header_of p).count (head_of x)).1 in
      rw (seeks-same false i E) (met-tested Equal i (omega (arith, E.1, l)) E.2)

  pub finds-above : (i : ℕ) → SearchEnds false w p x (Ok (Halved-as-Above i)) → find_in w p (header_of p) x ≡ Ok (Smaller i)
  unfolding find_in tested
  finds-above i E =
      let l = (window-lies p (header_of p).flag (header_of p).count (head_of x)).1 in
      rw (seeks-above false i E) (met-tested Greater i (omega (arith, E.1, l)) E.2)

  pub finds-unmet : (i : ℕ) (f : Result Found Refusal) → SearchEnds false w p x (Ok (Halved-as-Unmet i)) → f ≡ tested_at w p (header_of p) x (Ok i) → find_in w p (header_of p) x ≡ f
  unfolding find_in
  finds-unmet i f E e = rw (seeks-unmet false i E) (sym e)

pub ruleset not_met = (unmet-none, unmet-refused, unmet-less, unmet-equal, unmet-greater)

pub ruleset bounds = (seeks-refused, seeks-same, seeks-above, seeks-unmet)

pub ruleset finds = (finds-refused, finds-same, finds-above, finds-unmet)
