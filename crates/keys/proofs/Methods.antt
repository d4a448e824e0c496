-- Keys and numbers compared by std's methods: what `cmp`, `==` and `starts_with` answer is `by_number`, `order`, `same_list` and `begins`.
-- Assumes nothing.
use Rattle.std.proofs.Common.{◌≡◌, refl, sym, ap, ◌∙◌, ◌&&◌, ⊎_elim, List, [], ◌∷◌, ℕ, ◌+◌, ◌≤◌, arith, eq-eqb, ne_eqb, le-leb, leb, eqb, length, get_or, take, nat_eq}
use native.Mathlib.Decide.{dec_le}
use borrow.Author.Tests.{lt-leb}
use lib.Pointwise.{pointwise}
use Rattle.std.specs.Ordering.{nat_cmp, ordering_then}
use Rattle.std.specs.Cmp.{nat_cmp_is}
use Rattle.std.specs.Cmp.Lexicographic.{slice_cmp}
use Rattle.std.specs.List.{starts_with}
use Rattle.std.specs.declared.cmp.Ordering.{Ordering}
use Rattle.std.specs.declared.cmp.Ordering.TheVariants.{Less, Equal, Greater}
use Rattle.keys.specs.Keys.{by_number, order, same_list, begins, common, head_of}
use Rattle.keys.specs.Walk.{Reach}
use Rattle.octets.specs.Bytes.{part}
use Rattle.octets.proofs.Alike.{part-alike}
use Rattle.octets.proofs.Part.{part_at}
use Rattle.octets.proofs.Big.{be_four}
use Rattle.std.specs.Int.{w32, from_be_bytes}
use Rattle.keys.proofs.Orders.{eq_same_list, ne_same_list}
use Rattle.keys.proofs.Prefixes.{common-le, common_at, common_grow}
use Rattle.keys.proofs.Numbers.{tri, alike?, by_number-lt, by_number_eq, by_number_gt}

-- what follows where two numbers are equal
then_number : (x y : ℕ) (o : Ordering) → by_number x y o ≡ ordering_then (nat_cmp x y) o
then_number x y o =
    ⊎_elim (λ h. by_number-lt x y o h ∙ ap (λ r. ordering_then r o) (nat_cmp_is x y Less h))
    (⊎_elim (λ h. by_number_eq x y o h ∙ ap (λ r. ordering_then r o) (nat_cmp_is x y Equal h)) (λ h. by_number_gt x y o h ∙ ap (λ r. ordering_then r o) (nat_cmp_is x y Greater h)))
    (tri x y)

pub number_cmp : (x y : ℕ) → by_number x y Equal ≡ nat_cmp x y
number_cmp x y = then_number x y Equal ∙ last (nat_cmp x y)
  where
    last : (o : Ordering) → ordering_then o Equal ≡ o
    last Less = refl
    last Equal = refl
    last Greater = refl

pub order-cmp : (a b : List ℕ) → order a b ≡ slice_cmp nat_cmp a b
unfolding order
order-cmp [] [] = refl
order-cmp [] (y ∷ b) = refl
order-cmp (x ∷ a) [] = refl
order-cmp (x ∷ a) (y ∷ b) = then_number x y (order a b) ∙ ap (ordering_then (nat_cmp x y)) (order-cmp a b)

pub same-eq : (a b : List ℕ) → same_list a b ≡ pointwise nat_eq a b
unfolding same_list
same-eq [] [] = refl
same-eq [] (y ∷ b) = refl
same-eq (x ∷ a) [] = refl
same-eq (x ∷ a) (y ∷ b) = ap (λ t. nat_eq x y && t) (same-eq a b)

eqb_sym : (x y : ℕ) → eqb x y ≡ eqb y x
eqb_sym x y = ⊎_elim (λ e. eq-eqb x y e ∙ sym (eq-eqb y x (sym e))) (λ e. ne_eqb x y e ∙ sym (ne_eqb y x (λ f. e (sym f)))) (alike? x y)

-- the same the other way round
eq-same : (a b : List ℕ) → same_list a b ≡ pointwise nat_eq b a
unfolding same_list
eq-same [] [] = refl
eq-same [] (y ∷ b) = refl
eq-same (x ∷ a) [] = refl
eq-same (x ∷ a) (y ∷ b) = λ i. eqb_sym x y i && eq-same a b i

pub begins-starts : (a b : List ℕ) → begins a b ≡ starts_with nat_eq a b
unfolding begins
begins-starts a b = eq-same (take (length b) a) b

pub ruleset comparing = (number_cmp, order-cmp, same-eq, begins-starts)

-- ---- n bytes of two keys from i on, where those before them agree
module _ (n : ℕ) (a b : List ℕ) (i : ℕ) (c : i ≤ common a b) (h : i + n ≤ length a) (k : i + n ≤ length b) where
  agree_in : i + n ≤ common a b → part n a i ≡ part n b i
  agree_in l = part-alike n a i b i (λ j m. common_at a b (i + j) (omega arith)) (omega arith)

  in_agree : part n a i ≡ part n b i → i + n ≤ common a b
  in_agree e = common_grow a b i n c h k (λ j m. sym (part_at n a i j m) ∙ ap (λ (l : List ℕ). get_or l j 0) e ∙ part_at n b i j m)

  pub agree-test : leb (i + n) (common a b) ≡ pointwise nat_eq (part n a i) (part n b i)
  agree-test = go (dec_le (i + n) (common a b))
    where
      go : Dec (i + n ≤ common a b) → leb (i + n) (common a b) ≡ pointwise nat_eq (part n a i) (part n b i)
      go (yes l) = le-leb (i + n) (common a b) l ∙ sym (eq_same_list (part n a i) (part n b i) (agree_in l)) ∙ same-eq (part n a i) (part n b i)
      go (no l) = lt-leb (i + n) (common a b) (omega arith) ∙ sym (ne_same_list (part n a i) (part n b i) (λ e. l (in_agree e))) ∙ same-eq (part n a i) (part n b i)

pub ruleset agreeing = (agree-test)

-- all of the shorter one agrees
pub reach-end : (a b : List ℕ) (from n : ℕ) → Reach a b from n → n ≤ common a b → n ≡ common a b
reach-end a b from n R l = let most = common-le a b in ⊎_elim (λ h. omega arith) (λ h. omega arith) R.ends

-- ---- the head of four bytes
pub head_four : (s : List ℕ) → head_of s ≡ from_be_bytes w32 (get_or s 0 0 ∷ get_or s 1 0 ∷ get_or s 2 0 ∷ get_or s 3 0 ∷ [])
unfolding head_of
head_four s = rw be_four (omega arith)
