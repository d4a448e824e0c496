-- What does not depend on the order of records: tests and sums over them, and the listing that filing them makes. Assumes nothing.
use Rattle.std.proofs.Common.{◌≡◌, refl, sym, ap, ◌∙◌, Bool, true, false, List, [], ◌∷◌, ◌++◌, ℕ, suc, arith, length}
use mathlib.Core.List.Permᴰ
use mathlib.Core.List.{Permᴰ}
use Rattle.keys.specs.Choice.{pick, both}
use Rattle.paper.specs.Lists.{all, pairs, sum, less, differ}
use Rattle.paper.specs.Listing.{Entry, file, file_all}
use Rattle.paper.proofs.Lists.{both_parts, both_swap, both_four}
use Rattle.paper.proofs.Sorted.{file_comm, differ_sym}

module _ {A : Type 0} where
  pub all-perm : (f : A → Bool) {l m : List A} → Permᴰ l m → all f l ≡ all f m
  unfolding all
  all-perm f Permᴰ.nil = refl
  all-perm f (Permᴰ.cons e d) = cc (all-perm f d, ap f e)
  all-perm f (Permᴰ.swap {a} {b} {a'} {b'} {l} e g) = both_swap (f a) (f b) (all f l) ∙ cc (ap f e, ap f g)
  all-perm f (Permᴰ.trans d g) = all-perm f d ∙ all-perm f g

  pub sum-perm : (f : A → ℕ) {l m : List A} → Permᴰ l m → sum f l ≡ sum f m
  unfolding sum
  sum-perm f Permᴰ.nil = refl
  sum-perm f (Permᴰ.cons e d) = cc (sum-perm f d, ap f e)
  sum-perm f (Permᴰ.swap e g) = omega (arith, ap f e, ap f g)
  sum-perm f (Permᴰ.trans d g) = sum-perm f d ∙ sum-perm f g

  pub length-perm : {l m : List A} → Permᴰ l m → length l ≡ length m
  length-perm Permᴰ.nil = refl
  length-perm (Permᴰ.cons e d) = ap suc (length-perm d)
  length-perm (Permᴰ.swap e g) = refl
  length-perm (Permᴰ.trans d g) = length-perm d ∙ length-perm g

  pub pairs-perm : (f : A → A → Bool) → ((a b : A) → f a b ≡ f b a) → {l m : List A} → Permᴰ l m → pairs f l ≡ pairs f m
  unfolding pairs all
  pairs-perm f s Permᴰ.nil = refl
  pairs-perm f s (Permᴰ.cons {a} {b} {l₁ = l} {l₂ = m} e d) = rw e (cc (pairs-perm f s d, all-perm (f b) d))
  pairs-perm f s (Permᴰ.swap {a} {b} {a'} {b'} {l} e g) =
      ap (λ x. pairs f (x ∷ b ∷ l)) e ∙ ap (λ y. pairs f (b' ∷ y ∷ l)) g
      ∙ rw (s b' a') (both_four (f a' b') (all (f b') l) (all (f a') l) (pairs f l))
  pairs-perm f s (Permᴰ.trans d g) = pairs-perm f s d ∙ pairs-perm f s g

-- records with different keys come out alike in every order
pub file_all_perm : {l m : List Entry} → Permᴰ l m → pairs (λ a b. differ a.key b.key) l ≡ true → (o : List Entry) → file_all l o ≡ file_all m o
unfolding file_all pairs all
file_all_perm Permᴰ.nil h o = refl
file_all_perm (Permᴰ.cons {a} {b} {l₁ = l} {l₂ = m} e d) h o =
    rw e (file_all_perm d (both_parts (all (λ x. differ a.key x.key) l) (pairs (λ a b. differ a.key b.key) l) h).1 (file b o))
file_all_perm (Permᴰ.swap {a} {b} {a'} {b'} {l} e g) h o =
    let d : differ a.key b.key ≡ true = (both_parts (differ a.key b.key) (all (λ x. differ a.key x.key) l) (both_parts (both (differ a.key b.key) (all (λ x. differ a.key x.key) l)) (both (all (λ x. differ b.key x.key) l) (pairs (λ a b. differ a.key b.key) l)) h).0).0 in
    rw (← e, ← g, file_comm b a (rw (differ_sym b.key a.key) d) o)
file_all_perm (Permᴰ.trans d g) h o =
    file_all_perm d h o ∙ file_all_perm g (sym (pairs-perm (λ a b. differ a.key b.key) (λ a b. differ_sym a.key b.key) d) ∙ h) o

-- what is filed is there, and nothing else
file-holds : (e : Entry) (l : List Entry) → Permᴰ (file e l) (e ∷ l)
unfolding file
file-holds e [] = Permᴰ.cons refl Permᴰ.nil
file-holds e (y ∷ l) = go (less y.key e.key) (file-holds e l)
  where
    go : (b : Bool) → Permᴰ (file e l) (e ∷ l) → Permᴰ (pick b (y ∷ file e l) (e ∷ y ∷ l)) (e ∷ y ∷ l)
    go true d = Permᴰ.trans (Permᴰ.cons refl d) (Permᴰ.swap refl refl)
    go false d = Permᴰ.refl (e ∷ y ∷ l)

pub file_all-holds : (es l : List Entry) → Permᴰ (file_all es l) (es ++ l)
unfolding file_all
file_all-holds [] l = Permᴰ.refl l
file_all-holds (e ∷ es) l = Permᴰ.trans (file_all-holds es (file e l)) (Permᴰ.trans (Permᴰ.append_left es (file-holds e l)) (Permᴰ.middle e es l))
