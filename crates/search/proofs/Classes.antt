-- A probe against the page's prefix: the class as a number, and the probe's suffix. Assumes
-- nothing.
use Rattle.std.proofs.Common.{◌≡◌, refl, sym, ap, ◌∙◌, Bool, true, false, List, ℕ, ◌-◌, ◌≤◌, ◌<◌, arith, eq-eqb, ne_eqb, eqb, length, take, drop, length-drop, drop_of_length-le, take_all}
use lib.Seq.{drop-length}
use Rattle.octets.specs.Bytes.{le, part}
use Rattle.octets.proofs.Part.{part_none}
use Rattle.keys.specs.Keys.{begins, order, same_list}
use Rattle.keys.proofs.Orders.{order_same, same_order, same_list_eq, eq_same_list}
use Rattle.paper.specs.Page.{prefix_of, frame_of, header_of}
use Rattle.paper.specs.Searches.{class_of, probe_suffix}
use Rattle.paper.specs.Calls.{has_prefix}
use Rattle.paper.specs.declared.page.Header.{Header}
use Rattle.node.proofs.Spelling.{length-prefix_of}
use Rattle.search.specs.Probe.{class_by, class_number}
use Rattle.std.specs.declared.cmp.Ordering.{Ordering}
use Rattle.std.specs.declared.cmp.Ordering.TheVariants.{Less, Equal, Greater}

-- ---- the class
pub class_long : (p k l : List ℕ) (n m : ℕ) (o : Ordering) → l ≡ prefix_of p n → o ≡ order (take n k) l → m ≡ class_number o
    → m ≡ class_number (class_by p n k)
unfolding class_by
class_long p k l n m o f g h = h ∙ ap class_number (g ∙ ap (order (take n k)) f)

-- a probe that is no longer than the prefix is taken whole
pub class_short : (p k l : List ℕ) (n m : ℕ) (o : Ordering) → length k ≤ n → l ≡ prefix_of p n → o ≡ order k l → m ≡ class_number o
    → m ≡ class_number (class_by p n k)
class_short p k l n m o s f g h = class_long p k l n m o f (rw (take_all n k s) g) h

pub class_is : (p k : List ℕ) → class_by p (frame_of p).prefix_len k ≡ class_of (frame_of p) k
unfolding class_by class_of frame_of
class_is p k = refl

-- lists are the same exactly when their class is the middle one
differs : (a b : List ℕ) → (order a b ≡ Equal → ⊥) → (t : Bool) → same_list a b ≡ t → t ≡ false
differs a b f true e = absurd (f (same_order a b (same_list_eq a b e)))
differs a b f false e = refl

same_class : (a b : List ℕ) → same_list a b ≡ eqb (class_number (order a b)) 1
same_class a b = go (order a b) refl
  where
    clash : (o : Ordering) → (o ≡ Equal → ⊥) → order a b ≡ o → same_list a b ≡ false
    clash o f e = differs a b (λ q. f (sym e ∙ q)) (same_list a b) refl

    go : (o : Ordering) → order a b ≡ o → same_list a b ≡ eqb (class_number o) 1
    go Less e = unfold class_number in clash Less (λ q. let z : ◌≡◌ {A = ℕ} 0 1 = cc in omega arith) e
    go Equal e = unfold class_number in eq_same_list a b (order_same a b e)
    go Greater e = unfold class_number in clash Greater (λ q. let z : ◌≡◌ {A = ℕ} 0 1 = cc in omega arith) e

-- the probe k begins with the prefix l that was lent exactly when its class is the middle one
pub within_is : (p k l : List ℕ) (n : ℕ) → 16384 ≤ length p → n ≤ 16256 → l ≡ prefix_of p n → begins k l ≡ eqb (class_number (class_by p n k)) 1
unfolding begins class_by
within_is p k l n size most e = rw (e, length-prefix_of p n size most) (same_class (take n k) (prefix_of p n))

-- and with a prefix of no bytes every probe does
pub within_all : (p k : List ℕ) (n : ℕ) → n ≡ 0 → true ≡ eqb (class_number (class_by p n k)) 1
unfolding class_by prefix_of
within_all p k n e = rw e (sym (eq_same_list (take 0 k) (part 0 p 48) (sym (part_none p 48 0 refl))) ∙ same_class (take 0 k) (part 0 p 48))

-- a key has the prefix exactly when its class is the middle one
pub prefix_class : (p k : List ℕ) → has_prefix (frame_of p) k ≡ eqb (class_number (class_of (frame_of p) k)) 1
unfolding has_prefix class_of
prefix_class p k = same_class (take (frame_of p).prefix_len k) (frame_of p).prefix

pub prefix_same : (p k : List ℕ) → has_prefix (frame_of p) k ≡ true → class_of (frame_of p) k ≡ Equal
unfolding has_prefix class_of
prefix_same p k e = same_order (take (frame_of p).prefix_len k) (frame_of p).prefix (same_list_eq (take (frame_of p).prefix_len k) (frame_of p).prefix e)

-- by a header that was read; c is the class as a number
module _ (p k : List ℕ) (h : Header) (e : h ≡ header_of p) (c : ℕ) (f : c ≡ class_number (class_by p h.prefix_len k)) where
  by_number : has_prefix (frame_of p) k ≡ eqb c 1
  unfolding header_of
  by_number = prefix_class p k ∙ sym (rw (f, e, class_is p k))

  pub has-prefix : c ≡ 1 → has_prefix (frame_of p) k ≡ true
  has-prefix g = by_number ∙ eq-eqb c 1 g

  pub lacks-prefix : (c ≡ 1 → ⊥) → has_prefix (frame_of p) k ≡ false
  lacks-prefix g = by_number ∙ ne_eqb c 1 g

-- ---- what its number says
pub class_number-lt : (o : Ordering) → class_number o < 3
unfolding class_number
class_number-lt Less = omega arith
class_number-lt Equal = omega arith
class_number-lt Greater = omega arith

pub class_before : (o : Ordering) → class_number o ≡ 0 → o ≡ Less
unfolding class_number
class_before Less e = refl
class_before Equal e = absurd (omega arith)
class_before Greater e = absurd (omega arith)

pub class_within : (o : Ordering) → class_number o ≡ 1 → o ≡ Equal
unfolding class_number
class_within Less e = absurd (omega arith)
class_within Equal e = refl
class_within Greater e = absurd (omega arith)

pub class_after : (o : Ordering) → class_number o ≡ 2 → o ≡ Greater
unfolding class_number
class_after Less e = absurd (omega arith)
class_after Equal e = absurd (omega arith)
class_after Greater e = refl

-- ---- the suffix
pub suffix-rest : (p k : List ℕ) (n : ℕ) → n ≡ le 2 p 46 → take (length k - n) (drop n k) ≡ probe_suffix (frame_of p) k
unfolding frame_of
suffix-rest p k n e = take_all (length k - n) (drop n k) (simp length-drop (omega arith)) ∙ ap (λ (i : ℕ). drop i k) e

-- none where the probe is no longer than the prefix
pub suffix-none : (p k : List ℕ) (n : ℕ) → n ≡ le 2 p 46 → length k ≤ n
    → take (length k - length k) (drop (length k) k) ≡ probe_suffix (frame_of p) k
unfolding frame_of
suffix-none p k n e h =
    take_all (length k - length k) (drop (length k) k) (simp length-drop (omega arith))
    ∙ drop-length k
    ∙ sym (drop_of_length-le k {i = n} h)
    ∙ ap (λ (i : ℕ). drop i k) e

pub ruleset classes = (class_short, class_long)

pub ruleset within = (within_all, within_is)

pub ruleset suffixes = (suffix-none, suffix-rest)
