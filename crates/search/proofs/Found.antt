-- Find by a header is the paper's: a probe has the prefix exactly when its class is the middle one, and the slot tested meets the probe's suffix.
-- Assumes nothing.
use Rattle.std.proofs.Common.{◌≡◌, refl, sym, ap, ◌∙◌, Bool, true, false, List, [], ◌∷◌, ℕ, ◌<◌, arith, le-ltb, ltb, eqb, length, Result, Ok, Err}
use native.Mathlib.Decide.{dec_lt}
use Rattle.keys.specs.Choice.{pick}
use Rattle.paper.specs.Page.{frame_of, numbers_of, header_of}
use Rattle.paper.specs.Searches.{probe_suffix, class_of, slot_order, tested, find_at, bound}
use Rattle.paper.specs.Refusals.{judge}
use Rattle.paper.specs.Calls.{prefix_held, probe_checks, find_of}
use Rattle.paper.specs.declared.page.Header.{Header}
use Rattle.paper.specs.declared.refusal.Refusal.{Refusal}
use Rattle.paper.specs.declared.refusal.Refusal.TheVariants.{Prefix}
use Rattle.paper.proofs.Holding.{judge-append}
use Rattle.node.specs.Admit.{admit_of}
use Rattle.node.proofs.Admits.{admitted-judge, refused-admit}
use Rattle.search.specs.Probe.{class_by, class_number}
use Rattle.search.specs.Slot.{met_alone}
use Rattle.search.specs.Bounds.{searched}
use Rattle.search.specs.Finds.{tested_at, find_in, find_with}
use Rattle.search.proofs.Asked.{prefix-read, asked-size, asked-slots, asked-prefix}
use Rattle.search.proofs.Classes.{class_is, prefix_class}
use Rattle.search.proofs.Meets.{alone-there}
use Rattle.search.proofs.Bounded.{met, searched-is}
use Rattle.std.specs.declared.cmp.Ordering.{Ordering}
use Rattle.std.specs.declared.cmp.Ordering.TheVariants.{Less, Equal, Greater}
use Rattle.paper.specs.declared.answers.Found.TheVariants.{Equal, Smaller}

-- ---- by the prefix; b says whether the probe has it
module _ (w : ℕ) (p : List ℕ) (h : Header) (k : List ℕ) (b : Bool) (e : b ≡ eqb (class_number (class_by p h.prefix_len k)) 1) where
  pub find-outside : b ≡ false → find_with w p h k ≡ Err Prefix
  unfolding find_with
  find-outside f = rw (← e, f)

  -- x is the probe's suffix
  pub find-within : (x : List ℕ) → b ≡ true → x ≡ probe_suffix (frame_of p) k → find_with w p h k ≡ find_in w p h x
  unfolding find_with
  find-within x f d = rw (← e, f, ← d)

-- ---- the paper's find
module _ (w : ℕ) (p k : List ℕ) where
  tested-is : class_of (frame_of p) k ≡ Equal → (b : Result ℕ Refusal) → tested_at w p (header_of p) (probe_suffix (frame_of p) k) b ≡ find_at w p k b
  unfolding tested_at find_at header_of
  tested-is e (Ok i) = go (dec_lt i (numbers_of p).count)
    where
      go : Dec (i < (numbers_of p).count)
          → pick (ltb i (numbers_of p).count) (tested i (met_alone w p (numbers_of p).count (numbers_of p).end (probe_suffix (frame_of p) k) i)) (Ok (Smaller i))
          ≡ pick (ltb i (numbers_of p).count) (tested i (slot_order w p k i)) (Ok (Smaller i))
      go (yes l) = rw (alone-there w p (numbers_of p).count (numbers_of p).end (probe_suffix (frame_of p) k) i l, met false w p k e i)
      go (no l) = rw (le-ltb i (numbers_of p).count (omega arith))
  tested-is e (Err q) = refl

  abbrev suffix : List ℕ
  suffix = probe_suffix (frame_of p) k

  pub found-is : class_of (frame_of p) k ≡ Equal → find_in w p (header_of p) suffix ≡ find_at w p k (bound false w p k)
  unfolding find_in
  found-is e = tested-is e (searched false w p (header_of p) suffix) ∙ ap (find_at w p k) (searched-is false w p k e)

  pub find-is : find_with w p (header_of p) k ≡ judge (prefix_held p k ∷ []) (find_at w p k (bound false w p k)) Err
  unfolding find_with judge header_of
  find-is = rw (class_is p k, prefix_class p k) (go (class_of (frame_of p) k) refl)
    where
      go : (o : Ordering) → class_of (frame_of p) k ≡ o
          → pick (eqb (class_number o) 1) (find_in w p (header_of p) suffix) (Err Prefix)
          ≡ pick (eqb (class_number o) 1) (find_at w p k (bound false w p k)) (Err Prefix)
      go Less e = unfold class_number in refl
      go Equal e = unfold class_number in found-is e
      go Greater e = unfold class_number in refl

  -- ---- the call
  pub find-refused : (q : Refusal) → admit_of w p (length k) ≡ Err q → find_of w p k ≡ Err q
  unfolding find_of
  find-refused q e = judge-append (probe_checks w p k) (prefix_held p k ∷ []) _ Err ∙ refused-admit w p (length k) q e _ Err

  pub find-admitted : admit_of w p (length k) ≡ Ok tt → find_of w p k ≡ find_with w p (header_of p) k
  unfolding find_of
  find-admitted e = judge-append (probe_checks w p k) (prefix_held p k ∷ []) _ Err ∙ admitted-judge w p (length k) e _ Err ∙ sym find-is

pub ruleset whole_call = (find-refused, find-admitted, find-outside, find-within, asked-size, asked-slots, asked-prefix, prefix-read)
