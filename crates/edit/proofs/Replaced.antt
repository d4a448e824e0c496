-- Set value, way out by way out: the tests after the page was found fit, the slot where the key stands, and the page that is written. Assumes nothing.
use Rattle.std.proofs.Common.{◌≡◌, refl, sym, ap, ◌∙◌, Bool, true, false, not, List, ℕ, ◌+◌, ◌*◌, ◌≤◌, ◌<◌, min, arith, eqb-true, eq-eqb, ne_eqb, eqb, length, Result, Ok, Err}
use borrow.Author.Tests.{not-true}
use Rattle.octets.specs.Bytes.{IsBytes, le}
use Rattle.keys.specs.Choice.{pick, both}
use Rattle.paper.specs.Lists.{all, differ}
use Rattle.paper.specs.Page.{slot_at, place, slot_of, value_at, frame_of, numbers_of, header_of}
use Rattle.paper.specs.Space.{payload_bytes}
use Rattle.paper.specs.Listing.{listing, keys}
use Rattle.paper.specs.Refusals.{judge}
use Rattle.paper.specs.Edits.{value_set}
use Rattle.paper.specs.Searches.{probe_suffix, scan, find_scan}
use Rattle.paper.specs.Calls.{fits_width, has_prefix, stored_value, set_checks, set_of, set_page}
use Rattle.paper.specs.declared.page.Slot.{Slot}
use Rattle.paper.specs.declared.page.Header.{Header}
use Rattle.paper.specs.declared.refusal.Refusal.{Refusal}
use Rattle.paper.specs.declared.refusal.Refusal.TheVariants.{ValueRange, Prefix, NotFound, OtherValue}
use Rattle.paper.proofs.Lists.{both_parts}
use Rattle.paper.proofs.Holding.{Hold, judge_hold, answer_holds, refused-judge}
use Rattle.paper.proofs.Searching.{length-keys, rises}
use Rattle.paper.proofs.Listed.{present_at}
use Rattle.verdict.specs.Fits.{fit_admit_of}
use Rattle.search.specs.Probe.{class_by, class_number}
use Rattle.search.specs.Finds.{find_in}
use Rattle.search.proofs.Scans.{found-scan}
use Rattle.write.proofs.Givens.{set_given}
use Rattle.write.proofs.Rekeys.{value_is, value-within}
use Rattle.edit.specs.Tested.{Tested}
use Rattle.edit.specs.Sets.{set_tests, held_with, held_at, set_with, value_set_with}
use Rattle.edit.proofs.Widths.{width-most}
use Rattle.edit.proofs.Testing.{prefix-held, prefix-not, tested-fit, class-asked, find-asked, judge-refused, judge-fitted}
use Rattle.paper.specs.declared.answers.Found.{Found}
use Rattle.paper.specs.declared.answers.Found.TheVariants.{Equal, Smaller}

-- ---- a slot; s is the slot that was read, v its value, read at `at`
module _ (w : ℕ) (p : List ℕ) (i expected : ℕ) (s : Slot) (at v : ℕ) (l : w ≤ 8) (e : s ≡ slot_at p (place i)) (f : at ≡ value_at s) (g : v ≡ le (min w 8) p at) where
  stored : le w p (value_at (slot_of p i)) ≡ v
  unfolding slot_of
  stored = sym (value_is w p s at v l f g ∙ ap (λ (o : Slot). le w p (value_at o)) e)

  pub held-other : (v ≡ expected → ⊥) → held_at w p i expected ≡ Err (OtherValue v)
  unfolding held_at
  held-other d = rw (stored, ne_eqb v expected d)

  pub held_same : v ≡ expected → held_at w p i expected ≡ Ok i
  unfolding held_at
  held_same d = rw (stored, eq-eqb v expected d)

-- ---- a key that is there
module _ (w : ℕ) (p k : List ℕ) (T : Tested w p (length k)) (b : IsBytes p) where
  -- its slot is one
  there : all (differ k) (keys (listing w p)) ≡ false → scan false k (listing w p) < (numbers_of p).count
  there e =
      let F = tested-fit w p (length k) T in
      omega (arith, (present_at k (keys (listing w p)) (rises w p T.size b F) e).0, length-keys w p T.size b F)

  -- which can be read and written
  given : (i : ℕ) → i ≡ scan false k (listing w p) → all (differ k) (keys (listing w p)) ≡ false
      → (16384 ≤ length p) × (8 * i + 8 ≤ 16256) × ((slot_of p i).offset + payload_bytes w (slot_of p i).len ≤ 16256)
  given i e a = set_given w p T.size (tested-fit w p (length k) T) i (rw e (there a))

-- ---- what a search says of a key
module _ (k : List ℕ) (ks : List (List ℕ)) (r : ℕ) where
  equal-says : (i : ℕ) → ◌≡◌ {A = Result Found Refusal} (pick (all (differ k) ks) (Ok (Smaller r)) (Ok (Equal r))) (Ok (Equal i)) → (i ≡ r) × (all (differ k) ks ≡ false)
  equal-says i e = go (all (differ k) ks) refl e
    where
      go : (t : Bool) → all (differ k) ks ≡ t → ◌≡◌ {A = Result Found Refusal} (pick t (Ok (Smaller r)) (Ok (Equal r))) (Ok (Equal i)) → (i ≡ r) × (all (differ k) ks ≡ false)
      go true a e = absurd (let z : ◌≡◌ {A = ℕ} 0 1 = cc in omega arith)
      go false a e = (cc, a)

  smaller-says : (i : ℕ) → ◌≡◌ {A = Result Found Refusal} (pick (all (differ k) ks) (Ok (Smaller r)) (Ok (Equal r))) (Ok (Smaller i)) → all (differ k) ks ≡ true
  smaller-says i e = go (all (differ k) ks) refl e
    where
      go : (t : Bool) → all (differ k) ks ≡ t → ◌≡◌ {A = Result Found Refusal} (pick t (Ok (Smaller r)) (Ok (Equal r))) (Ok (Smaller i)) → all (differ k) ks ≡ true
      go true a e = a
      go false a e = absurd (let z : ◌≡◌ {A = ℕ} 0 1 = cc in omega arith)

  never-refused : (q : Refusal) → pick (all (differ k) ks) (Ok (Smaller r)) (Ok (Equal r)) ≡ Err q → ⊥
  never-refused q e = go (all (differ k) ks) e
    where
      go : (t : Bool) → pick t (Ok (Smaller r)) (Ok (Equal r)) ≡ Err q → ⊥
      go true e = let z : ◌≡◌ {A = ℕ} 0 1 = cc in omega arith
      go false e = let z : ◌≡◌ {A = ℕ} 0 1 = cc in omega arith

-- ---- the slot of a key; t and s say whether the values fit, n is the prefix's length and c the class as a number, x the key's suffix
module _ (w : ℕ) (p k : List ℕ) (expected new : ℕ) (T : Tested w p (length k)) (t : Bool) (a : t ≡ fits_width w expected) where
  pub held-range : t ≡ false → held_with w p k expected new ≡ Err ValueRange
  unfolding held_with judge
  held-range g = rw (← a, g)

  module _ (fits : t ≡ true) (s : Bool) (d : s ≡ fits_width w new) where
    pub held-range-new : s ≡ false → held_with w p k expected new ≡ Err ValueRange
    unfolding held_with judge
    held-range-new g = rw (← a, fits, ← d, g)

    module _ (fits-new : s ≡ true) (n : ℕ) (r : n ≡ le 2 p 46) (c : ℕ) (f : c ≡ class_number (class_by p n k)) where
      pub held-lacks : (c ≡ 1 → ⊥) → held_with w p k expected new ≡ Err Prefix
      unfolding held_with judge
      held-lacks g = rw (← a, fits, ← d, fits-new, prefix-not p k n r c f g)

      module _ (one : c ≡ 1) (x : List ℕ) (m : x ≡ probe_suffix (frame_of p) k) (b : IsBytes p) (hk : IsBytes k) (y : Result Found Refusal) (found : y ≡ find_in w p (header_of p) x) where
        has : has_prefix (frame_of p) k ≡ true
        has = prefix-held p k n r c f one

        scanned : pick (all (differ k) (keys (listing w p))) (Ok (Smaller (scan false k (listing w p)))) (Ok (Equal (scan false k (listing w p)))) ≡ y
        unfolding find_scan
        scanned = sym (found ∙ found-scan w p T.size b (tested-fit w p (length k) T) k hk has x m)

        pub held_none : (i : ℕ) → y ≡ Ok (Smaller i) → held_with w p k expected new ≡ Err NotFound
        unfolding held_with judge
        held_none i e =
            let absent = smaller-says k (keys (listing w p)) (scan false k (listing w p)) i (scanned ∙ e) in
            rw (← a, fits, ← d, fits-new, has, absent)

        pub held-no-search : (q : Refusal) → y ≡ Err q → ⊥
        held-no-search q e = never-refused k (keys (listing w p)) (scan false k (listing w p)) q (scanned ∙ e)

        module _ (i : ℕ) (e : y ≡ Ok (Equal i)) where
          says : (i ≡ scan false k (listing w p)) × (all (differ k) (keys (listing w p)) ≡ false)
          says = equal-says k (keys (listing w p)) (scan false k (listing w p)) i (scanned ∙ e)

          -- what its value's test asks for
          pub held-asked : (16384 ≤ length p) × (w ≤ 8) × (8 * i + 8 ≤ 16256) × ((slot_of p i).offset + payload_bytes w (slot_of p i).len ≤ 16256)
          held-asked = let g = given w p k T b i says.0 says.1 in (g.0, width-most w T.width, g.1, g.2)

          pub held_found : held_with w p k expected new ≡ held_at w p i expected
          unfolding held_with judge held_at stored_value
          held_found = let z = says.0 in let present = says.1 in rw (← a, fits, ← d, fits-new, has, present, z)

-- ---- the page
module _ (w : ℕ) (p k : List ℕ) (expected new : ℕ) where
  pub set-kept : (q : Refusal) → held_with w p k expected new ≡ Err q → (Err q ≡ set_with w p k expected new) × (p ≡ value_set_with w p k expected new)
  unfolding held_with set_with value_set_with
  set-kept q e = (sym (alike _ Err), sym (alike _ (λ r. p)))
    where
      alike : {A : Type 0} (a : A) (r : Refusal → A) → judge (set_tests w p k expected new) a r ≡ r q
      alike a r =
          refused-judge (set_tests w p k expected new) (scan false k (listing w p)) q e a r

  module _ (i : ℕ) (e : held_with w p k expected new ≡ Ok i) where
    holds : Hold (set_tests w p k expected new)
    unfolding held_with
    holds = answer_holds (set_tests w p k expected new) (scan false k (listing w p)) i e

    slot_is : i ≡ scan false k (listing w p)
    slot_is =
        let a : held_with w p k expected new ≡ Ok (scan false k (listing w p)) =
        unfold held_with in judge_hold (set_tests w p k expected new) (Ok (scan false k (listing w p))) Err holds in
        cc

    tests-say : (all (differ k) (keys (listing w p)) ≡ false) × (stored_value w p k ≡ expected)
    unfolding all
    tests-say =
        let a = both_parts (both (fits_width w expected) (fits_width w new)) _ holds in
        let b = both_parts (has_prefix (frame_of p) k) _ a.1 in
        let c = both_parts (not (all (differ k) (keys (listing w p)))) _ b.1 in
        let d = both_parts (eqb (stored_value w p k) expected) _ c.1 in
        (not-true (all (differ k) (keys (listing w p))) c.0, eqb-true (stored_value w p k) expected d.0)

    -- what the write asks for
    pub set-asked : Tested w p (length k) → IsBytes p
        → (16384 ≤ length p) × (8 * i + 8 ≤ 16256) × ((slot_of p i).offset + payload_bytes w (slot_of p i).len ≤ 16256)
    set-asked T b = given w p k T b i slot_is tests-say.0

    pub set-done : (q : List ℕ) → q ≡ value_set w p i new → (Ok expected ≡ set_with w p k expected new) × (q ≡ value_set_with w p k expected new)
    unfolding set_with value_set_with
    set-done q m = (
      ap Ok (sym tests-say.1) ∙ sym (judge_hold (set_tests w p k expected new) (Ok (stored_value w p k)) Err holds),
      m ∙ rw slot_is (sym (judge_hold (set_tests w p k expected new) (value_set w p (scan false k (listing w p)) new) (λ r. p) holds)),
    )

  -- ---- the whole call
  pub set-refused : (q : Refusal) → fit_admit_of w p (length k) ≡ Err q → (Err q ≡ set_of w p k expected new) × (p ≡ set_page w p k expected new)
  unfolding set_of set_page set_checks
  set-refused q e =
      (sym (judge-refused w p (length k) (set_tests w p k expected new) _ Err q e), sym (judge-refused w p (length k) (set_tests w p k expected new) _ (λ r. p) q e))

  pub set-fitted : (h : Header) → fit_admit_of w p (length k) ≡ Ok h
      → (set_with w p k expected new ≡ set_of w p k expected new) × (value_set_with w p k expected new ≡ set_page w p k expected new)
  unfolding set_of set_page set_checks set_with value_set_with
  set-fitted h e =
      (sym (judge-fitted w p (length k) (set_tests w p k expected new) _ Err h e), sym (judge-fitted w p (length k) (set_tests w p k expected new) _ (λ r. p) h e))

pub ruleset by_slot = (value-within, held-other, held_same)

pub ruleset by_search = (class-asked, find-asked, held-range, held-range-new, held-lacks, held_none, held-no-search, held-asked, held_found)
