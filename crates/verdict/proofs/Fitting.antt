-- The ways out of both verdicts by a header. Assumes nothing.
use Rattle.std.proofs.Common.{◌≡◌, refl, Bool, true, false, List, [], ◌∷◌, ℕ, ◌<◌, arith, Option, Some, Result, Ok, Err}
use Rattle.std.specs.Option.{unwrap_or}
use Rattle.keys.specs.Choice.{pick, both}
use Rattle.paper.specs.Lists.{every}
use Rattle.paper.specs.declared.page.Header.{Header}
use Rattle.node.specs.Header.{rules_of}
use Rattle.verdict.specs.Pieces.{held_with, disjoint_with}
use Rattle.verdict.specs.Tally.{tally_of, fences_rise_with, fences_faithful_with, fences_fit_with, effective_with, hints_fresh_with}
use Rattle.verdict.specs.Fits.{key_rules, fit_with, empty_leaf_with, order_with, layout_with}
use Rattle.verdict.specs.Weighed.{weighed_with, first_rule, broken_with}
use Rattle.verdict.specs.declared.tally.Tally.{Tally}
use Rattle.verdict.proofs.Broken.{first_number, first_above}

module _ (w : ℕ) (p : List ℕ) (h : Header) where
  abbrev tally : Tally
  tally = tally_of w p h h.count

  -- ---- U2, U3 and the tally
  pub weighed-2 : held_with w p h ≡ false → Err 2 ≡ weighed_with w p h
  unfolding weighed_with
  weighed-2 a = rw a

  pub weighed-3 : held_with w p h ≡ true → disjoint_with w p h ≡ false → Err 3 ≡ weighed_with w p h
  unfolding weighed_with
  weighed-3 a b = rw (a, b)

  pub weighed-tally : held_with w p h ≡ true → disjoint_with w p h ≡ true → (t : Tally) → t ≡ tally → Ok t ≡ weighed_with w p h
  unfolding weighed_with
  weighed-tally a b t e = rw (a, b, e)

  -- ---- fit
  pub broken-1 : rules_of h ≡ false → Some 1 ≡ broken_with w p h
  unfolding broken_with first_rule
  broken-1 a = rw a

  pub broken-err : rules_of h ≡ true → (r : ℕ) → weighed_with w p h ≡ Err r → Some r ≡ broken_with w p h
  unfolding broken_with first_rule weighed_with
  broken-err a r e = rw a (go (held_with w p h) (disjoint_with w p h) e)
    where
      go : (x y : Bool) → pick {A = Result Tally ℕ} x (pick {A = Result Tally ℕ} y (Ok tally) (Err 3)) (Err 2) ≡ Err r → Some r ≡ pick {A = Option ℕ} x (pick {A = Option ℕ} y (first_rule 4 (key_rules p h tally)) (Some 3)) (Some 2)
      go true true f = absurd (cc)
      go true false f = cc
      go false y f = cc

  pub broken-ok : rules_of h ≡ true → (t : Tally) → weighed_with w p h ≡ Ok t → first_rule 4 (key_rules p h t) ≡ broken_with w p h
  unfolding broken_with first_rule weighed_with
  broken-ok a t e = rw a (go (held_with w p h) (disjoint_with w p h) e)
    where
      go : (x y : Bool) → pick {A = Result Tally ℕ} x (pick {A = Result Tally ℕ} y (Ok tally) (Err 3)) (Err 2) ≡ Ok t → first_rule 4 (key_rules p h t) ≡ pick {A = Option ℕ} x (pick {A = Option ℕ} y (first_rule 4 (key_rules p h tally)) (Some 3)) (Some 2)
      go true true f = let q : tally ≡ t = cc in rw q
      go true false f = absurd (cc)
      go false y f = absurd (cc)

  -- U4 to U9 as code tested them
  pub keys_tested : (t : Tally) (faithful fences effective hints : Bool) → faithful ≡ fences_faithful_with p h → fences ≡ fences_fit_with p h
      → effective ≡ effective_with h t.needs → hints ≡ hints_fresh_with p h
      → first_rule 4 (both faithful t.faithful ∷ fences ∷ t.inside ∷ t.rising ∷ effective ∷ hints ∷ []) ≡ first_rule 4 (key_rules p h t)
  keys_tested t a b c d ea eb ec ed = rw (ea, eb, ec, ed)

  pub broken_number : unwrap_or (broken_with w p h) 0 ≡ fit_with w p h
  unfolding broken_with fit_with
  broken_number = first_number 1 _

  pub broken-above : (r : ℕ) → broken_with w p h ≡ Some r → 0 < r
  unfolding broken_with
  broken-above r e = let q = first_above 1 _ r e in omega arith

  -- ---- layout
  pub layout-1 : rules_of h ≡ false → false ≡ layout_with w p h
  unfolding layout_with every
  layout-1 a = rw a

  pub layout_leaf : rules_of h ≡ true → empty_leaf_with h ≡ true → false ≡ layout_with w p h
  unfolding layout_with every
  layout_leaf a b = rw (a, b)

  pub layout-err : rules_of h ≡ true → empty_leaf_with h ≡ false → (r : ℕ) → weighed_with w p h ≡ Err r → false ≡ layout_with w p h
  unfolding layout_with every weighed_with
  layout-err a b r e = rw (a, b) (go (held_with w p h) (disjoint_with w p h) e)
    where
      go : (x y : Bool) → pick {A = Result Tally ℕ} x (pick {A = Result Tally ℕ} y (Ok tally) (Err 3)) (Err 2) ≡ Err r → false ≡ both x (both y (both (order_with w p h) true))
      go true true f = absurd (cc)
      go true false f = refl
      go false y f = refl

  pub layout-ok : rules_of h ≡ true → empty_leaf_with h ≡ false → (t : Tally) → weighed_with w p h ≡ Ok t → (x : Bool) → x ≡ both (both (fences_rise_with p h) t.inside) t.rising
      → x ≡ layout_with w p h
  unfolding layout_with order_with every weighed_with
  layout-ok a b t e x f = rw (a, b, f) (go (held_with w p h) (disjoint_with w p h) e)
    where
      last : (a b c : Bool) → both (both a b) c ≡ both (both a (both b (both c true))) true
      last true true true = refl
      last true true false = refl
      last true false c = refl
      last false b c = refl

      go : (x y : Bool) → pick {A = Result Tally ℕ} x (pick {A = Result Tally ℕ} y (Ok tally) (Err 3)) (Err 2) ≡ Ok t
          → both (both (fences_rise_with p h) t.inside) t.rising ≡ both x (both y (both (both (fences_rise_with p h) (both tally.inside (both tally.rising true))) true))
      go true true f = let q : tally ≡ t = cc in rw q (last (fences_rise_with p h) t.inside t.rising)
      go true false f = absurd (cc)
      go false y f = absurd (cc)
