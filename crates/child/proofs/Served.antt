-- The child number of a fit page by a header: the tests are the paper's, and the upper bound is the scan's. Assumes nothing.
use Rattle.std.proofs.Common.{◌≡◌, refl, sym, ap, ◌∙◌, true, List, [], ◌∷◌, ℕ, zero, suc, ◌+◌, ◌*◌, ◌-◌, ◌^◌, ◌≤◌, ◌<◌, sub-one, arith, ℤ, pos, negsuc, length, w32, to_z, Ok, Err}
use mir.Facts.{to_z_pos}
use Rattle.octets.specs.Bytes.{IsBytes, le}
use Rattle.paper.specs.Page.{slot_at, place, slot_of, value_at, frame_of, numbers_of, header_of, view_of}
use Rattle.paper.specs.Verdicts.{inside, fit_of}
use Rattle.paper.specs.Refusals.{judge}
use Rattle.paper.specs.Listing.{Entry, listing}
use Rattle.paper.specs.Searches.{probe_suffix, scan, child_at, child_scan}
use Rattle.paper.specs.Calls.{is_width, page_length, key_length, is_fit, has_prefix, prefix_held, inside_fences, child_of}
use Rattle.paper.specs.declared.page.Slot.{Slot}
use Rattle.paper.specs.declared.page.Header.{Header}
use Rattle.paper.specs.declared.refusal.Refusal.{Refusal}
use Rattle.paper.proofs.Fit.{Fit, Rules, fit, placed}
use Rattle.paper.proofs.Filing.{frame-rules}
use Rattle.paper.proofs.Holding.{judge-append}
use Rattle.paper.proofs.Listed.{listed}
use Rattle.verdict.specs.Fits.{fit_checks, fit_admit_of}
use Rattle.verdict.proofs.Fitness.{fitted, fitted-judge, unfit-judge}
use Rattle.paper.proofs.Searching.{r-le}
use Rattle.search.specs.Bounds.{searched}
use Rattle.search.proofs.Classes.{has-prefix, lacks-prefix}
use Rattle.search.proofs.Fences.{inside_is}
use Rattle.search.proofs.Scans.{searched-scan}
use Rattle.search.proofs.Asked.{prefix_fits, slots-fit, inside_asked}
use Rattle.child.specs.Child.{child_with}
use Rattle.paper.specs.declared.answers.Child.{Child}

fits : (p : List ℕ) → fit_of 8 p ≡ 0 → Fit 8 (view_of 8 p)
unfolding fit_of
fits p e = fit 8 (view_of 8 p) e

-- its header rules hold
pub header-rules : (p : List ℕ) → length p ≡ 16384 → fit_of 8 p ≡ 0 → Rules (frame_of p) (numbers_of p)
header-rules p size e = frame-rules 8 p size (fits p e)

-- ---- the child by a number of keys
abbrev as_child : ℤ → ℕ → Child
as_child z v = record { slot = z; value = v }

pub child-none : (v n : ℕ) (l : List Entry) → n ≡ 0 → as_child (negsuc 0) v ≡ child_at v l n
unfolding child_at
child-none v n l e = rw e

module _ (p : List ℕ) (v x : ℕ) where
  child-suc : (j : ℕ) → j < (numbers_of p).count → x ≡ le 8 p (value_at (slot_of p j)) → as_child (pos j) x ≡ child_at v (listing 8 p) (suc j)
  unfolding child_at
  child-suc j h e = ap (as_child (pos j)) (e ∙ sym (ap (λ (a : Entry). a.value) (listed 8 p j (record { key = []; value = 0 }) h)))

  child-last : (n : ℕ) → (n ≡ 0 → ⊥) → n ≤ (numbers_of p).count → n < 2 ^ 31 → x ≡ le 8 p (value_at (slot_of p (n - 1)))
      → as_child (to_z w32 (n - 1)) x ≡ child_at v (listing 8 p) n
  child-last zero f h l e = absurd (f refl)
  child-last (suc j) f h l e =
      ap (λ (z : ℤ). as_child z x) (ap (λ (m : ℕ). to_z w32 m) (sub-one (suc j)) ∙ to_z_pos w32 {n = j} (omega arith))
      ∙ child-suc j (omega arith) (e ∙ ap (λ (m : ℕ). le 8 p (value_at (slot_of p m))) (sub-one (suc j)))

-- s is the slot that was read, `at` where its value stands
module _ (p : List ℕ) (n : ℕ) (s : Slot) (e : s ≡ slot_at p (place (n - 1))) (at : ℕ) (f : at ≡ value_at s) where
  value_is : at ≡ value_at (slot_of p (n - 1))
  unfolding slot_of
  value_is = f ∙ ap value_at e

  module _ (some : n ≡ 0 → ⊥) (few : n ≤ (numbers_of p).count) (size : length p ≡ 16384) (fitted : fit_of 8 p ≡ 0) where
    pub value-lies : at + 8 ≤ length p
    value-lies = let l = ((placed 8 p (fits p fitted)).rows (n - 1) (omega arith)).1 in rw value_is (omega (arith, size, l))

    pub child-slot : (v x : ℕ) → x ≡ le 8 p at → as_child (to_z w32 (n - 1)) x ≡ child_at v (listing 8 p) n
    child-slot v x g =
        let R = header-rules p size fitted in
        child-last p v x n some few (omega (arith, R.start, R.order, R.top)) (g ∙ ap (le 8 p) value_is)

-- ---- on a fit page a search for a key that has the prefix finds what the scan does; x is the key's suffix
module _ (p k x : List ℕ) (d : x ≡ probe_suffix (frame_of p) k) (has : has_prefix (frame_of p) k ≡ true) (size : length p ≡ 16384) (fitted : fit_of 8 p ≡ 0) (b : IsBytes p) (hk : IsBytes k) where
  scanned : searched true 8 p (header_of p) x ≡ Ok (scan true k (listing 8 p))
  scanned = searched-scan 8 p size b (fits p fitted) k hk has x d true

  pub child-no-bound : (q : Refusal) → searched true 8 p (header_of p) x ≡ Err q → ⊥
  child-no-bound q l = let a : Ok (scan true k (listing 8 p)) ≡ Err q = sym scanned ∙ l in let z : ◌≡◌ {A = ℕ} 0 1 = cc in omega arith

  module _ (n : ℕ) (l : searched true 8 p (header_of p) x ≡ Ok n) where
    same-scan : n ≡ scan true k (listing 8 p)
    same-scan = let a : Ok n ≡ Ok (scan true k (listing 8 p)) = sym l ∙ scanned in cc

    pub child-found : (h : Header) → h ≡ header_of p → (r : Child) → r ≡ child_at h.lower_value (listing 8 p) n → inside (frame_of p) k ≡ true → Ok r ≡ child_with p k
    unfolding child_with judge child_scan header_of
    child-found h e r f l = rw (f, e, has, l, same-scan)

    -- it passes no more keys than there are
    pub child-few : (n ≤ (numbers_of p).count) × (8 * n ≤ 16256)
    child-few =
        let R = header-rules p size fitted in
        let m = r-le 8 p size b (fits p fitted) true k in
        let q = same-scan in
        (omega arith, omega (arith, R.start, R.order, R.top))

-- ---- the whole call: its first tests are those of an edit at width 8, which is known
module _ (p k : List ℕ) where
  front : child_of p k ≡ judge (fit_checks 8 p (length k)) (child_with p k) Err
  unfolding child_of child_with judge is_width
  front = judge-append (page_length p ∷ key_length k ∷ is_fit 8 p ∷ []) (prefix_held p k ∷ inside_fences p k ∷ []) _ Err

  pub child-refused : (q : Refusal) → fit_admit_of 8 p (length k) ≡ Err q → child_of p k ≡ Err q
  child-refused q e = front ∙ unfit-judge 8 p (length k) q e _ Err

  pub child-fitted : (h : Header) → fit_admit_of 8 p (length k) ≡ Ok h → child_of p k ≡ child_with p k
  child-fitted h e = front ∙ fitted-judge 8 p (length k) h e _ Err

pub ruleset at_a_slot = (child-none, child-slot)

pub ruleset with_a_header = (prefix_fits, header-rules, lacks-prefix, has-prefix, slots-fit, inside_asked, inside_is, child-no-bound, child-few, child-found)

pub ruleset whole_call = (child-refused, child-fitted, fitted)
