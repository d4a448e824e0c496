-- A slot compared by a header is the paper's comparison: the class as a number picks the same sign. Assumes nothing.
use Rattle.std.proofs.Common.{◌≡◌, refl, sym, ap, ◌∙◌, Bool, true, false, List, [], ◌∷◌, ℕ, eq-eqb, ne_eqb, ltb, length, pos, negsuc, eqb, to_z, of_z, w8, Ok, Err}
use Rattle.keys.specs.Choice.{pick}
use Rattle.paper.specs.Page.{slot_of, frame_of, numbers_of, header_of}
use Rattle.paper.specs.Verdicts.{slot_payload, within}
use Rattle.paper.specs.Searches.{probe_suffix, class_of, by_class, slot_meets, visit, slot_order, sign_of}
use Rattle.paper.specs.Refusals.{judge}
use Rattle.paper.specs.Calls.{slot_there, probe_checks, compared, compare_of}
use Rattle.paper.specs.declared.page.Header.{Header}
use Rattle.paper.specs.declared.refusal.Refusal.{Refusal}
use Rattle.paper.specs.declared.refusal.Refusal.TheVariants.{SlotNumber, Payload}
use Rattle.paper.proofs.Holding.{judge-append}
use Rattle.node.specs.Admit.{admit_of}
use Rattle.node.proofs.Admits.{admitted-judge, refused-admit}
use Rattle.search.specs.Probe.{class_by, class_number}
use Rattle.search.specs.Slot.{met_alone}
use Rattle.search.specs.Compares.{sign_by, signed, compare_with}
use Rattle.search.proofs.Asked.{prefix-read, asked-size, asked-slots, asked-prefix}
use Rattle.search.proofs.Classes.{class_is}
use Rattle.std.specs.declared.cmp.Ordering.{Ordering}
use Rattle.std.specs.declared.cmp.Ordering.TheVariants.{Less, Equal, Greater}

-- ---- the sign
pub sign_before : (c : ℕ) (o : Ordering) → c ≡ 0 → sign_by c o ≡ pos 1
unfolding sign_by
sign_before c o e = rw (eq-eqb c 0 e)

pub sign_after : (c : ℕ) (o : Ordering) → (c ≡ 0 → ⊥) → c ≡ 2 → sign_by c o ≡ negsuc 0
unfolding sign_by
sign_after c o f e = rw (ne_eqb c 0 f, eq-eqb c 2 e)

pub sign_within : (c : ℕ) (o : Ordering) → (c ≡ 0 → ⊥) → (c ≡ 2 → ⊥) → sign_by c o ≡ sign_of o
unfolding sign_by
sign_within c o f g = rw (ne_eqb c 0 f, ne_eqb c 2 g)

sign_class : (a o : Ordering) → sign_by (class_number a) o ≡ sign_of (by_class a o)
unfolding sign_by class_number by_class sign_of
sign_class Less o = refl
sign_class Equal o = refl
sign_class Greater o = refl

-- and it is a byte's number, so nothing is lost where it is handed on
pub sign_whole : (c : ℕ) (o : Ordering) → to_z w8 (of_z w8 (sign_by c o)) ≡ sign_by c o
unfolding sign_by
sign_whole c o = go (eqb c 0) (eqb c 2) o
  where
    go : (a b : Bool) (o : Ordering) → to_z w8 (of_z w8 (pick a (pos 1) (pick b (negsuc 0) (sign_of o)))) ≡ pick a (pos 1) (pick b (negsuc 0) (sign_of o))
    go true b o = refl
    go false true o = refl
    go false false Less = unfold sign_of in refl
    go false false Equal = unfold sign_of in refl
    go false false Greater = unfold sign_of in refl

-- ---- by what the slot met; x is the probe's suffix
module _ (w : ℕ) (p : List ℕ) (h : Header) (i : ℕ) (k x : List ℕ) (d : x ≡ probe_suffix (frame_of p) k) where
  pub compare-out : (q : Refusal) → met_alone w p h.count h.end x i ≡ Err q → compare_with w p h i k ≡ Err q
  unfolding compare_with signed
  compare-out q e = rw (← d, e)

  pub compare-met : (o : Ordering) (c : ℕ) → met_alone w p h.count h.end x i ≡ Ok o → c ≡ class_number (class_by p h.prefix_len k)
      → compare_with w p h i k ≡ Ok (sign_by c o)
  unfolding compare_with signed
  compare-met o c e f = rw (← d, e, ← f)

-- ---- the call
module _ (w : ℕ) (p : List ℕ) (i : ℕ) (k : List ℕ) where
  compare-is : compare_with w p (header_of p) i k ≡ judge (slot_there p i ∷ []) (compared (slot_order w p k i)) Err
  unfolding compare_with header_of signed met_alone compared slot_order visit judge
  compare-is = rw (class_is p k) (go (ltb i (numbers_of p).count) (within (numbers_of p).end (slot_payload w (slot_of p i))))
    where
      m : Ordering
      m = slot_meets p (slot_of p i) (probe_suffix (frame_of p) k)

      go : (t u : Bool)
          → signed (class_number (class_of (frame_of p) k)) (pick t (pick u (Ok m) (Err Payload)) (Err SlotNumber))
          ≡ pick t (compared (pick u (Ok (by_class (class_of (frame_of p) k) m)) (Err Payload))) (Err SlotNumber)
      go true true = ap Ok (sign_class (class_of (frame_of p) k) m)
      go true false = refl
      go false u = refl

  pub compare-refused : (q : Refusal) → admit_of w p (length k) ≡ Err q → compare_of w p i k ≡ Err q
  unfolding compare_of
  compare-refused q e = judge-append (probe_checks w p k) (slot_there p i ∷ []) _ Err ∙ refused-admit w p (length k) q e _ Err

  pub compare-admitted : admit_of w p (length k) ≡ Ok tt → compare_of w p i k ≡ compare_with w p (header_of p) i k
  unfolding compare_of
  compare-admitted e = judge-append (probe_checks w p k) (slot_there p i ∷ []) _ Err ∙ admitted-judge w p (length k) e _ Err ∙ sym compare-is

pub ruleset whole_call = (compare-refused, compare-admitted, compare-out, compare-met, sign_whole, asked-size, asked-slots, asked-prefix, prefix-read)

pub ruleset signs = (sign_before, sign_after, sign_within)
