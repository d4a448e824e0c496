-- A key in two runs, against a probe: the first run decides where it differs from as many bytes of the probe, and else the second one against
-- the rest. Assumes nothing.
use Rattle.std.proofs.Common.{◌≡◌, refl, sym, ap, ◌∙◌, List, ◌++◌, ℕ, ◌-◌, min, arith, length, take, drop, length-drop, take_all}
use Rattle.std.proofs.lemmas.List.{take-append-drop, take_min}
use Rattle.keys.specs.Keys.{order}
use Rattle.keys.proofs.Orders.{order_same, order_flip, order-append}
use Rattle.paper.specs.Searches.{by_class}
use Rattle.paper.proofs.Meeting.{by_class_lem}
use Rattle.std.specs.declared.cmp.Ordering.{Ordering}
use Rattle.std.specs.declared.cmp.Ordering.TheVariants.{Less, Equal, Greater}
use Rattle.std.specs.Ordering.{ordering_reverse}

-- which is the first run's order
apart : (c o : Ordering) → (c ≡ Equal → ⊥) → by_class (ordering_reverse c) o ≡ c
unfolding by_class
apart Less o f = refl
apart Equal o f = absurd (f refl)
apart Greater o f = refl

module _ (a s k : List ℕ) (n : ℕ) (r : Ordering) where
  -- the first run is as many bytes of the probe
  pub order_rest : (t : List ℕ) (q : Ordering) → r ≡ order a (take n k) → r ≡ Equal → t ≡ s → q ≡ order t (take (length k - n) (drop n k)) → q ≡ order (a ++ s) k
  order_rest t q e f d g =
      g ∙ ap (order t) (take_all (length k - n) (drop n k) (omega (arith, length-drop n k)))
      ∙ ap (λ (x : List ℕ). order x (drop n k)) d
      ∙ sym (order-append a s (drop n k))
      ∙ ap (λ (x : List ℕ). order (a ++ s) (x ++ drop n k)) (order_same a (take n k) (sym e ∙ f))
      ∙ ap (order (a ++ s)) (take-append-drop n k)

  -- it differs from them
  pub order_front : n ≡ min (length a) (length k) → r ≡ order a (take n k) → (r ≡ Equal → ⊥) → r ≡ order (a ++ s) k
  order_front h e f =
      let same : order a (take n k) ≡ order a (take (length a) k) = rw (h, take_min) in
      sym (apart r (order s (drop (length a) k)) f)
      ∙ ap (λ (x : Ordering). by_class x (order s (drop (length a) k))) (ap ordering_reverse (e ∙ same) ∙ sym (order_flip a (take (length a) k)))
      ∙ by_class_lem a s k
