-- Laws of sorted keys and of records: `less` and `differ` as tests, a key put in where it belongs keeps a list rising, records filed in
-- either order come out alike, and a key between two fences begins as they do. Assumes nothing.
use Rattle.std.proofs.Common.{◌≡◌, refl, sym, ◌∙◌, Bool, true, false, List, [], ◌∷◌, ◌++◌, ℕ, suc, ◌≤◌, arith, length, take}
use Rattle.std.proofs.lemmas.Bool.{both_ways}
use lib.Seq.{take-append_seam}
use Rattle.keys.specs.Choice.{pick, both}
use Rattle.keys.specs.Keys.{order, common}
use Rattle.keys.proofs.Numbers.{below_above}
use Rattle.keys.proofs.Orders.{order_refl, order_flip, order_same, order_trans, order-above}
use Rattle.keys.proofs.Prefixes.{common-append, common-take}
use Rattle.keys.proofs.Between.{nearer-above}
use Rattle.paper.specs.Lists.{ins, all, up_to, less, differ, below_first, rising}
use Rattle.paper.specs.Listing.{Entry, file}
use Rattle.paper.specs.Searches.{passed, scan}
use Rattle.paper.proofs.Lists.{both_parts, both_yes}
use Rattle.std.specs.declared.cmp.Ordering.{Ordering}
use Rattle.std.specs.declared.cmp.Ordering.TheVariants.{Less, Equal, Greater}
use Rattle.std.specs.Ordering.{is_lt, ordering_reverse}

-- ---- less and differ
pub less-order : (a b : List ℕ) → less a b ≡ true → order a b ≡ Less
unfolding less
less-order a b = go (order a b)
  where
    go : (o : Ordering) → is_lt o ≡ true → o ≡ Less
    go Less e = refl
    go Equal e = absurd (both_ways false refl e)
    go Greater e = absurd (both_ways false refl e)

pub order-less : (a b : List ℕ) → order a b ≡ Less → less a b ≡ true
unfolding less
order-less a b e = rw e

-- what is not smaller is not below
pub not-less : (a b : List ℕ) → less a b ≡ false → order a b ≡ Less → ⊥
not-less a b e f = both_ways (less a b) e (order-less a b f)

pub less_trans : (a b c : List ℕ) → less a b ≡ true → less b c ≡ true → less a c ≡ true
less_trans a b c e f = order-less a c (order_trans a b c (less-order a b e) (less-order b c f))

pub less-flip : (a b : List ℕ) → less a b ≡ true → less b a ≡ false
unfolding less
less-flip a b e = rw (order_flip a b, less-order a b e)

pub less_self : (a : List ℕ) → less a a ≡ false
unfolding less
less_self a = rw (order_refl a)

pub differ_up : (a b : List ℕ) → differ a b ≡ true → less a b ≡ false → less b a ≡ true
unfolding differ
differ_up a b e f = rw f at e

pub differ_sym : (a b : List ℕ) → differ a b ≡ differ b a
unfolding differ
differ_sym a b = go (less a b) (less b a)
  where
    go : (x y : Bool) → pick x true y ≡ pick y true x
    go true true = refl
    go true false = refl
    go false true = refl
    go false false = refl

pub differ_same : (k y : List ℕ) → y ≡ k → differ k y ≡ false
unfolding differ
differ_same k y e = rw (e, less_self k)

-- keys that do not differ are the same
pub differ_no : (a b : List ℕ) → differ a b ≡ false → b ≡ a
unfolding differ less
differ_no a b e = go (order a b) refl (rw (order_flip a b) at e)
  where
    go : (o : Ordering) → order a b ≡ o → pick (is_lt o) true (is_lt (ordering_reverse o)) ≡ false → b ≡ a
    go Less q e = absurd (both_ways true e refl)
    go Equal q e = sym (order_same a b q)
    go Greater q e = absurd (both_ways true e refl)

-- ---- scans
pub up_to_le : {A : Type 0} (f : A → Bool) (l : List A) → up_to f l ≤ length l
unfolding up_to
up_to_le f [] = omega arith
up_to_le f (y ∷ l) = go (f y) (up_to_le f l)
  where
    go : (b : Bool) → up_to f l ≤ length l → pick b (suc (up_to f l)) 0 ≤ suc (length l)
    go true h = omega arith
    go false h = omega arith

-- the lower bound passes exactly the smaller keys
pub passed-less : (y k : List ℕ) → passed false (order y k) ≡ less y k
unfolding less
passed-less y k = go (order y k)
  where
    go : (o : Ordering) → passed false o ≡ is_lt o
    go Less = unfold passed in refl
    go Equal = unfold passed in refl
    go Greater = unfold passed in refl

-- the place where a key belongs
abbrev pub spot : List ℕ → List (List ℕ) → ℕ
spot k l = up_to (λ y. passed false (order y k)) l

below_first_ins : (z k : List ℕ) (l : List (List ℕ)) → less z k ≡ true → below_first z l ≡ true → below_first z (ins (spot k l) k l) ≡ true
unfolding below_first up_to ins
below_first_ins z k [] e f = e
below_first_ins z k (y ∷ l) e f = go (passed false (order y k))
  where
    go : (b : Bool) → below_first z (ins (pick b (suc (spot k l)) 0) k (y ∷ l)) ≡ true
    go true = f
    go false = e

-- a key put in where it belongs
pub rising_ins : (k : List ℕ) (l : List (List ℕ)) → rising l ≡ true → all (differ k) l ≡ true → rising (ins (spot k l) k l) ≡ true
unfolding rising below_first up_to ins all
rising_ins k [] r d = refl
rising_ins k (y ∷ l) r d =
    go (passed false (order y k)) refl (rising_ins k l (both_parts (below_first y l) (rising l) r).1 (both_parts (differ k y) (all (differ k) l) d).1)
  where
    go : (b : Bool) → passed false (order y k) ≡ b → rising (ins (spot k l) k l) ≡ true → rising (ins (pick b (suc (spot k l)) 0) k (y ∷ l)) ≡ true
    go true e next =
        both_yes (below_first y (ins (spot k l) k l)) (rising (ins (spot k l) k l))
        (below_first_ins y k l (sym (passed-less y k) ∙ e) (both_parts (below_first y l) (rising l) r).0) next
    go false e next =
        both_yes (less k y) (both (below_first y l) (rising l))
        (differ_up y k (rw (differ_sym y k) (both_parts (differ k y) (all (differ k) l) d).0) (sym (passed-less y k) ∙ e)) r

-- ---- records
pub file_ins : (e : Entry) (l : List Entry) → file e l ≡ ins (scan false e.key l) e l
unfolding file up_to ins
file_ins e [] = refl
file_ins e (y ∷ l) = rw (passed-less y.key e.key) (go (less y.key e.key) (file_ins e l))
  where
    go : (b : Bool) → file e l ≡ ins (scan false e.key l) e l → pick b (y ∷ file e l) (e ∷ y ∷ l) ≡ ins (pick b (suc (scan false e.key l)) 0) e (y ∷ l)
    go true h = rw h
    go false h = refl

-- two records come out alike in either order
file_comm_less : (x y : Entry) → less x.key y.key ≡ true → (l : List Entry) → file x (file y l) ≡ file y (file x l)
unfolding file
file_comm_less x y e [] = rw (less-flip x.key y.key e, e)
file_comm_less x y e (z ∷ l) = go (less z.key x.key) (less z.key y.key) refl refl (file_comm_less x y e l)
  where
    go : (a b : Bool) → less z.key x.key ≡ a → less z.key y.key ≡ b → file x (file y l) ≡ file y (file x l)
        → file x (file y (z ∷ l)) ≡ file y (file x (z ∷ l))
    go true true f g h = rw (f, g) (simp (f, g) (rw h))
    go true false f g h = absurd (both_ways (less z.key y.key) g (less_trans z.key x.key y.key f e))
    go false true f g h = simp (f, g, e)
    go false false f g h = simp (f, g, e, less-flip x.key y.key e)

pub file_comm : (x y : Entry) → differ x.key y.key ≡ true → (l : List Entry) → file x (file y l) ≡ file y (file x l)
file_comm x y d l = go (less x.key y.key) refl
  where
    go : (b : Bool) → less x.key y.key ≡ b → file x (file y l) ≡ file y (file x l)
    go true e = file_comm_less x y e l
    go false e = sym (file_comm_less y x (differ_up x.key y.key d e) l)

-- ---- a key between two that begin with pre begins with pre
pub fenced-prefix : (pre a k b : List ℕ) → less k (pre ++ a) ≡ false → less k (pre ++ b) ≡ true → take (length pre) k ≡ pre
fenced-prefix pre a k b h l =
    let shared : length pre ≤ common (pre ++ a) (pre ++ b) = omega (arith, common-append pre a b) in
    let nearer = nearer-above (pre ++ a) k (pre ++ b) above_lower (λ f. below_above (sym (less-order k (pre ++ b) l) ∙ f)) in
    sym (common-take (pre ++ a) k (length pre) (omega arith)) ∙ take-append_seam pre a
  where
    above_lower : order (pre ++ a) k ≡ Greater → ⊥
    above_lower f = not-less k (pre ++ a) h (order-above (pre ++ a) k f)
