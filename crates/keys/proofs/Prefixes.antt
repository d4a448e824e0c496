-- Laws of the length of the common prefix: what lies within it, that it is the longest, and that it decides where the order of two
-- keys is found. Assumes nothing.
use Rattle.std.proofs.Common.{◌≡◌, refl, sym, ap, ◌∙◌, false, ◌⊎◌, inl, inr, ⊎_elim, List, [], ◌∷◌, ◌++◌, ℕ, zero, suc, ◌+◌, ◌-◌, ◌≤◌, ◌<◌, min, suc-add, zero-add, arith, eq-eqb, ne_eqb, le-leb, leb, eqb, length, get_or, take, drop, length-take, ext_get_or, get_or-take, length-take-le, take_all}
use native.Mathlib.Decide.{dec_le, dec_lt}
use borrow.Author.Tests.{lt-leb}
use Rattle.octets.proofs.Alike.{Alike}
use Rattle.keys.specs.Keys.{begins, by_number, order, common, same_list}
use Rattle.keys.proofs.Numbers.{alike?, by_number-lt, by_number_eq, by_number_gt, by_number_ne, by_number-suc}
use Rattle.keys.proofs.Orders.{order_same, order_step, eq_same_list, ne_same_list}
use Rattle.std.specs.declared.cmp.Ordering.TheVariants.{Equal}

-- ---- one byte of each
pub common_eq : (x y : ℕ) (xs ys : List ℕ) → x ≡ y → common (x ∷ xs) (y ∷ ys) ≡ suc (common xs ys)
unfolding common
common_eq x y xs ys e = rw (eq-eqb x y e)

pub common_ne : (x y : ℕ) (xs ys : List ℕ) → (x ≡ y → ⊥) → common (x ∷ xs) (y ∷ ys) ≡ 0
unfolding common
common_ne x y xs ys e = rw (ne_eqb x y e)

-- ---- what the length says
pub common-le : (a b : List ℕ) → (common a b ≤ length a) × (common a b ≤ length b)
unfolding common
common-le [] b = (omega arith, omega arith)
common-le (x ∷ xs) [] = (omega arith, omega arith)
common-le (x ∷ xs) (y ∷ ys) =
    let next = common-le xs ys in
    ⊎_elim (λ e. let f = common_eq x y xs ys e in (omega arith, omega arith)) (λ e. let f = common_ne x y xs ys e in (omega arith, omega arith))
    (alike? x y)

-- bytes within it are equal
pub common_at : (a b : List ℕ) (k : ℕ) → k < common a b → get_or a k 0 ≡ get_or b k 0
unfolding common
common_at [] b k h = absurd (omega arith)
common_at (x ∷ xs) [] k h = absurd (omega arith)
common_at (x ∷ xs) (y ∷ ys) zero h = ⊎_elim (λ e. e) (λ e. absurd (omega (arith, common_ne x y xs ys e))) (alike? x y)
common_at (x ∷ xs) (y ∷ ys) (suc k) h =
    let next = common_at xs ys k in
    ⊎_elim (λ e. next (omega (arith, common_eq x y xs ys e))) (λ e. absurd (omega (arith, common_ne x y xs ys e))) (alike? x y)

-- no longer front is equal
pub common_ge : (a b : List ℕ) (i : ℕ) → i ≤ length a → i ≤ length b → ((k : ℕ) → k < i → get_or a k 0 ≡ get_or b k 0) → i ≤ common a b
common_ge a b zero h k e = omega arith
common_ge [] b (suc i) h k e = absurd (omega arith)
common_ge (x ∷ xs) [] (suc i) h k e = absurd (omega arith)
common_ge (x ∷ xs) (y ∷ ys) (suc i) h k e =
    let next = common_ge xs ys i (omega arith) (omega arith) (λ j l. e (suc j) (omega arith)) in
    omega (arith, common_eq x y xs ys (e 0 (omega arith)))

-- n bytes more that are equal
pub common_grow : (a b : List ℕ) (i n : ℕ) → i ≤ common a b → i + n ≤ length a → i + n ≤ length b → Alike n a i b i → i + n ≤ common a b
common_grow a b i n c h k e = common_ge a b (i + n) h k one
  where
    one : (j : ℕ) → j < i + n → get_or a j 0 ≡ get_or b j 0
    one j l = go (dec_lt j i)
      where
        go : Dec (j < i) → get_or a j 0 ≡ get_or b j 0
        go (yes m) = common_at a b j (omega arith)
        go (no m) = let f : i + (j - i) ≡ j = omega arith in rw f at (e (j - i) (omega arith))

-- it ends at the first byte that differs
pub common-here : (a b : List ℕ) (i : ℕ) → i ≤ common a b → (get_or a i 0 ≡ get_or b i 0 → ⊥) → common a b ≡ i
common-here a b i c e = go (dec_lt i (common a b))
  where
    go : Dec (i < common a b) → common a b ≡ i
    go (yes l) = absurd (e (common_at a b i l))
    go (no l) = omega arith

-- ---- as a part of the keys
pub common-take : (a b : List ℕ) (n : ℕ) → n ≤ common a b → take n a ≡ take n b
common-take a b n h =
    let l = common-le a b in
    ext_get_or 0 (take n a) (take n b) (length-take-le n a (omega arith) ∙ sym (length-take-le n b (omega arith)))
    (λ i k. let m : i < n = omega (arith, length-take n a) in get_or-take n a i 0 m ∙ common_at a b i (omega arith) ∙ sym (get_or-take n b i 0 m))

pub take-common : (a b : List ℕ) (n : ℕ) → n ≤ length a → n ≤ length b → take n a ≡ take n b → n ≤ common a b
take-common a b n h k e =
    common_ge a b n h k (λ i l. sym (get_or-take n a i 0 l) ∙ ap (λ (x : List ℕ). get_or x i 0) e ∙ get_or-take n b i 0 l)

pub common_comm : (a b : List ℕ) → common a b ≡ common b a
unfolding common
common_comm [] [] = refl
common_comm [] (y ∷ ys) = refl
common_comm (x ∷ xs) [] = refl
common_comm (x ∷ xs) (y ∷ ys) =
    let next = common_comm xs ys in
    ⊎_elim (λ e. common_eq x y xs ys e ∙ ap suc next ∙ sym (common_eq y x ys xs (sym e)))
    (λ e. common_ne x y xs ys e ∙ sym (common_ne y x ys xs (λ f. e (sym f))))
    (alike? x y)

pub common-append : (p a b : List ℕ) → common (p ++ a) (p ++ b) ≡ length p + common a b
common-append [] a b = sym (zero-add (common a b))
common-append (x ∷ p) a b = common_eq x x (p ++ a) (p ++ b) refl ∙ ap suc (common-append p a b) ∙ sym (suc-add (length p) (common a b))

-- ---- equal keys
pub common_self : (a : List ℕ) → common a a ≡ length a
common_self a =
    let l = common-le a a in
    let g = common_ge a a (length a) (omega arith) (omega arith) (λ k h. refl) in
    omega arith

-- ---- the order
-- what stands before a common place decides nothing
pub order_skip : (a b : List ℕ) (i : ℕ) → i ≤ common a b → order a b ≡ order (drop i a) (drop i b)
unfolding order
order_skip a b zero h = refl
order_skip [] b (suc i) h = absurd (omega (arith, common-le [] b))
order_skip (x ∷ xs) [] (suc i) h = absurd (omega (arith, common-le (x ∷ xs) []))
order_skip (x ∷ xs) (y ∷ ys) (suc i) h =
    let next = order_skip xs ys i in
    ⊎_elim (λ e. by_number_eq x y (order xs ys) e ∙ next (omega (arith, common_eq x y xs ys e)))
    (λ e. absurd (omega (arith, common_ne x y xs ys e)))
    (alike? x y)

-- the first byte that differs decides
pub order-differ : (a b : List ℕ) → common a b < length a → common a b < length b
    → order a b ≡ by_number (get_or a (common a b) 0) (get_or b (common a b) 0) Equal
order-differ a b h k =
    let n = common a b in
    order_skip a b n (omega arith)
    ∙ order_step a b n h k
    ∙ by_number_ne (get_or a n 0) (get_or b n 0) (order (drop (suc n) a) (drop (suc n) b)) Equal (λ e. differs e)
  where
    differs : get_or a (common a b) 0 ≡ get_or b (common a b) 0 → ⊥
    differs e = omega (arith, common_ge a b (suc (common a b)) (omega arith) (omega arith) upto)
      where
        upto : (j : ℕ) → j < suc (common a b) → get_or a j 0 ≡ get_or b j 0
        upto j l = go (dec_lt j (common a b))
          where
            go : Dec (j < common a b) → get_or a j 0 ≡ get_or b j 0
            go (yes m) = common_at a b j m
            go (no m) = let f : j ≡ common a b = omega arith in rw f e

-- where one key is all common, the lengths decide
pub order_lengths : (a b : List ℕ) → (length a ≤ common a b) ⊎ (length b ≤ common a b) → order a b ≡ by_number (length a) (length b) Equal
unfolding order
order_lengths [] [] h = sym (by_number_eq 0 0 Equal refl)
order_lengths [] (y ∷ ys) h = sym (by_number-lt 0 (suc (length ys)) Equal (omega arith))
order_lengths (x ∷ xs) [] h = sym (by_number_gt (suc (length xs)) 0 Equal (omega arith))
order_lengths (x ∷ xs) (y ∷ ys) h = go (alike? x y) (order_lengths xs ys)
  where
    go : (x ≡ y) ⊎ (x ≡ y → ⊥) → ((length xs ≤ common xs ys) ⊎ (length ys ≤ common xs ys) → order xs ys ≡ by_number (length xs) (length ys) Equal)
        → by_number x y (order xs ys) ≡ by_number (suc (length xs)) (suc (length ys)) Equal
    go (inl e) next =
        let f = common_eq x y xs ys e in
        by_number_eq x y (order xs ys) e ∙ next (⊎_elim (λ k. inl (omega arith)) (λ k. inr (omega arith)) h) ∙ sym (by_number-suc (length xs) (length ys) Equal)
    go (inr e) next = absurd (⊎_elim (λ k. omega (arith, common_ne x y xs ys e)) (λ k. omega (arith, common_ne x y xs ys e)) h)

-- keys of one length that are all common are equal
pub all_common : (a b : List ℕ) → length a ≡ length b → common a b ≡ length a → a ≡ b
all_common a b e c = order_same a b (order_lengths a b (inl (omega arith)) ∙ by_number_eq (length a) (length b) Equal e)

-- so for keys of one length the test of the common prefix is the test of the bytes
pub common_test : (a b : List ℕ) → length a ≡ length b → eqb (common a b) (length a) ≡ same_list a b
common_test a b e =
    ⊎_elim (λ c. eq-eqb (common a b) (length a) c ∙ sym (eq_same_list a b (all_common a b e c)))
    (λ c. ne_eqb (common a b) (length a) c ∙ sym (ne_same_list a b (λ s. c (ap (λ (x : List ℕ). common a x) (sym s) ∙ common_self a))))
    (alike? (common a b) (length a))

-- ---- a key that begins with another has all of it in common
pub begins-common : (a b : List ℕ) → begins a b ≡ leb (length b) (common a b)
unfolding begins
begins-common a b = go (dec_le (length b) (common a b))
  where
    whole : take (length b) b ≡ b
    whole = take_all (length b) b (omega arith)

    long : take (length b) a ≡ b → length b ≤ length a
    long e = let l : min (length b) (length a) ≡ length b = sym (length-take (length b) a) ∙ ap length e in omega arith

    go : Dec (length b ≤ common a b) → same_list (take (length b) a) b ≡ leb (length b) (common a b)
    go (yes h) = eq_same_list (take (length b) a) b (common-take a b (length b) h ∙ whole) ∙ sym (le-leb (length b) (common a b) h)
    go (no h) =
        ne_same_list (take (length b) a) b (λ e. h (take-common a b (length b) (long e) (omega arith) (e ∙ sym whole)))
        ∙ sym (lt-leb (length b) (common a b) (omega arith))

-- so a shorter key does not
pub begins-not : (a b : List ℕ) → length a < length b → begins a b ≡ false
begins-not a b h = let l = (common-le a b).0 in begins-common a b ∙ lt-leb (length b) (common a b) (omega arith)

-- n bytes were found in common
pub begins_found : (a b : List ℕ) (n : ℕ) → n ≡ common a b → eqb n (length b) ≡ begins a b
begins_found a b n e = go (alike? n (length b)) ∙ sym (begins-common a b)
  where
    go : (n ≡ length b) ⊎ (n ≡ length b → ⊥) → eqb n (length b) ≡ leb (length b) (common a b)
    go (inl f) = eq-eqb n (length b) f ∙ sym (le-leb (length b) (common a b) (omega arith))
    go (inr f) = let l = (common-le a b).1 in ne_eqb n (length b) f ∙ sym (lt-leb (length b) (common a b) (omega arith))
