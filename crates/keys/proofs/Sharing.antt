-- The order of two keys by what they share, as code finds it. Assumes nothing.
use Rattle.std.proofs.Common.{◌≡◌, sym, ap, ◌∙◌, inl, inr, List, ℕ, ◌≤◌, ◌<◌, arith, length, get_or}
use Rattle.keys.specs.Keys.{by_number, order, common}
use Rattle.keys.proofs.Numbers.{by_number-lt, by_number_eq, by_number_gt}
use Rattle.keys.proofs.Orders.{order_same}
use Rattle.keys.proofs.Prefixes.{common-le, common_self, order-differ, order_lengths}
use Rattle.std.specs.declared.cmp.Ordering.TheVariants.{Less, Equal, Greater}

-- ---- two keys of which the first n bytes are shared, and no more
module _ (a b : List ℕ) (n : ℕ) (e : n ≡ common a b) where
  -- one key is all shared: the lengths decide
  pub shared_same : n ≡ length a → n ≡ length b → Equal ≡ order a b
  shared_same h k = sym (order_lengths a b (inl (omega arith)) ∙ by_number_eq (length a) (length b) Equal (omega arith))

  pub shared-below : n ≡ length a → (n ≡ length b → ⊥) → Less ≡ order a b
  shared-below h k =
      let l = common-le a b in
      sym (order_lengths a b (inl (omega arith)) ∙ by_number-lt (length a) (length b) Equal (omega arith))

  pub shared-above : (n ≡ length a → ⊥) → n ≡ length b → Greater ≡ order a b
  shared-above h k =
      let l = common-le a b in
      sym (order_lengths a b (inr (omega arith)) ∙ by_number_gt (length a) (length b) Equal (omega arith))

  -- neither is: both go on
  pub shared-left : (n ≡ length a → ⊥) → n < length a
  shared-left h = let l = common-le a b in omega arith

  pub shared-right : (n ≡ length b → ⊥) → n < length b
  shared-right k = let l = common-le a b in omega arith

  -- and the bytes there decide
  differ-by : (n ≡ length a → ⊥) → (n ≡ length b → ⊥) → order a b ≡ by_number (get_or a n 0) (get_or b n 0) Equal
  differ-by h k =
      let l = shared-left h in
      let m = shared-right k in
      rw e (order-differ a b (rw (← e) l) (rw (← e) m))

  pub differ-below : (n ≡ length a → ⊥) → (n ≡ length b → ⊥) → get_or a n 0 < get_or b n 0 → Less ≡ order a b
  differ-below h k l = sym (differ-by h k ∙ by_number-lt (get_or a n 0) (get_or b n 0) Equal l)

  -- they are not equal, for else the keys were
  pub differ-above : (n ≡ length a → ⊥) → (n ≡ length b → ⊥) → get_or b n 0 ≤ get_or a n 0 → Greater ≡ order a b
  differ-above h k l =
      let same : get_or a n 0 ≡ get_or b n 0 → a ≡ b = λ f. order_same a b (differ-by h k ∙ by_number_eq (get_or a n 0) (get_or b n 0) Equal f) in
      let apart : get_or a n 0 ≡ get_or b n 0 → ⊥ = λ f. h (e ∙ ap (common a) (sym (same f)) ∙ common_self a) in
      sym (differ-by h k ∙ by_number_gt (get_or a n 0) (get_or b n 0) Equal (omega arith))
