-- A slot that is faithful to its suffix meets a probe in byte order, and a probe outside the prefix stands to every key as it stands to the
-- prefix. Assumes nothing.
use Rattle.std.proofs.Common.{◌≡◌, refl, sym, ◌∙◌, Bool, true, false, ⊎_elim, List, [], ◌∷◌, ◌++◌, ℕ, ◌+◌, ◌<◌, min, arith, leb-false, leb, length, take, drop}
use Rattle.octets.specs.Bytes.{IsBytes, part}
use Rattle.keys.specs.Choice.{pick}
use Rattle.keys.specs.Keys.{by_number, order, head_of, meets}
use Rattle.keys.proofs.Numbers.{tri, below_same, below_above, same_above, by_number-lt, by_number_eq, by_number_gt, by_number_below, by_number_same}
use Rattle.keys.proofs.Heads.{meets-order}
use Rattle.paper.specs.Searches.{slot_meets, by_class}
use Rattle.paper.specs.declared.page.Slot.{Slot}
use Rattle.std.specs.declared.cmp.Ordering.{Ordering}
use Rattle.std.specs.declared.cmp.Ordering.TheVariants.{Less, Equal, Greater}

-- ---- a slot and a probe
-- o is faithful to the suffix x, which stands at its offset where it is long
pub slot-meets : (o : Slot) (p s x : List ℕ) → IsBytes x → IsBytes s → o.len ≡ length x → o.head ≡ head_of x
    → (4 < o.len → part o.len p (96 + o.offset) ≡ x) → slot_meets p o s ≡ order x s
unfolding slot_meets
slot-meets o p s x hx hs l e long = rw (e, l) (same (leb (min (length x) (length s)) 4) refl ∙ meets-order x s hx hs)
  where
    whole : 4 < length x → part (length x) p (96 + o.offset) ≡ x
    whole h = rw (← l) (long (omega arith))

    same : (t : Bool) → leb (min (length x) (length s)) 4 ≡ t
        → by_number (head_of x) (head_of s) (pick (leb (min (length x) (length s)) 4) (by_number (length x) (length s) Equal) (order (part (length x) p (96 + o.offset)) s)) ≡ meets x s
    same true q = unfold meets in rw q
    same false q = unfold meets in rw (q, whole (omega (arith, leb-false (min (length x) (length s)) 4 q)))

-- ---- the class of a probe
class_same : (pre s k : List ℕ) → order (take (length pre) k) pre ≡ Equal → order (pre ++ s) k ≡ order s (drop (length pre) k)
unfolding order
class_same [] s k e = refl
class_same (x ∷ pre) s [] e = below_same e
class_same (x ∷ pre) s (y ∷ k) e =
    let b = by_number_same y x (order (take (length pre) k) pre) e in
    by_number_eq x y (order (pre ++ s) k) (sym b.0) ∙ class_same pre s k b.1

class_below : (pre s k : List ℕ) → order (take (length pre) k) pre ≡ Less → order (pre ++ s) k ≡ Greater
unfolding order
class_below [] s k e = below_same (sym e)
class_below (x ∷ pre) s [] e = refl
class_below (x ∷ pre) s (y ∷ k) e =
    ⊎_elim (λ h. by_number_gt x y (order (pre ++ s) k) h) (λ h. by_number_eq x y (order (pre ++ s) k) (sym h.0) ∙ class_below pre s k h.1)
    (by_number_below y x (order (take (length pre) k) pre) e)

class_above : (pre s k : List ℕ) → order (take (length pre) k) pre ≡ Greater → order (pre ++ s) k ≡ Less
unfolding order
class_above [] s k e = same_above e
class_above (x ∷ pre) s [] e = below_above e
class_above (x ∷ pre) s (y ∷ k) e =
    ⊎_elim (λ h. below_above (sym (by_number-lt y x (order (take (length pre) k) pre) h) ∙ e))
    (⊎_elim (λ h. by_number_eq x y (order (pre ++ s) k) (sym h) ∙ class_above pre s k (sym (by_number_eq y x (order (take (length pre) k) pre) h) ∙ e))
    (λ h. by_number-lt x y (order (pre ++ s) k) h))
    (tri y x)

-- a key against a probe, by the probe's class and the suffixes
pub by_class_lem : (pre s k : List ℕ) → by_class (order (take (length pre) k) pre) (order s (drop (length pre) k)) ≡ order (pre ++ s) k
by_class_lem pre s k = go (order (take (length pre) k) pre) refl
  where
    go : (c : Ordering) → order (take (length pre) k) pre ≡ c → by_class c (order s (drop (length pre) k)) ≡ order (pre ++ s) k
    go Less e = unfold by_class in sym (class_below pre s k e)
    go Equal e = unfold by_class in sym (class_same pre s k e)
    go Greater e = unfold by_class in sym (class_above pre s k e)
