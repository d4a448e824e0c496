-- An insert on a page that stands as tested is the call, and leaves a page that stands so: on an accepted record by the paper's laws of filing, on a
-- refused one since the page stays. Assumes nothing.
use Rattle.std.proofs.Common.{◌≡◌, refl, ◌∙◌, Bool, true, false, List, [], ◌∷◌, ℕ, ◌≤◌, ◌<◌, eq-eqb, le-leb, leb-true, leb, eqb, length, Result, Ok, Err}
use borrow.Author.Tests.{lt-leb}
use Rattle.octets.specs.Bytes.{IsBytes}
use Rattle.keys.specs.Choice.{pick, both}
use Rattle.paper.specs.Lists.{all, differ}
use Rattle.paper.specs.Page.{frame_of, numbers_of, header_of, view_of}
use Rattle.paper.specs.Space.{need, free}
use Rattle.paper.specs.Verdicts.{inside, fit_of}
use Rattle.paper.specs.Listing.{Entry, listing, keys}
use Rattle.paper.specs.Refusals.{Check, judge}
use Rattle.paper.specs.Searches.{probe_suffix}
use Rattle.paper.specs.Calls.{is_width, fits_width, has_prefix, insert_checks, insert_of, insert_page}
use Rattle.paper.specs.declared.refusal.Refusal.TheVariants.{KeyLength}
use Rattle.paper.proofs.Lists.{both_parts}
use Rattle.paper.proofs.Holding.{all_hold, Hold}
use Rattle.paper.proofs.Fit.{fit, fit_back}
use Rattle.paper.proofs.Filing.{Takes, size-after, fit-after}
use Rattle.verdict.specs.Fits.{fit_admit_of}
use Rattle.edit.specs.Inserts.{insert_with, inserted_with}
use Rattle.edit.proofs.Inserted.{insert-fitted}
use Rattle.filing.specs.Standing.{Standing}
use Rattle.paper.specs.declared.refusal.Refusal.{Refusal}

-- all tests hold and a is given, or b whatever the refusal
judge-pick : {A : Type 0} (cs : List Check) (a b : A) → judge cs a (λ r. b) ≡ pick (all_hold cs) a b
unfolding judge all
judge-pick [] a b = refl
judge-pick (c ∷ cs) a b = rw (judge-pick cs a b) (go c.holds)
  where
    go : (t : Bool) → pick t (pick (all_hold cs) a b) b ≡ pick (both t (all_hold cs)) a b
    go true = refl
    go false = refl

module _ (w : ℕ) (p k : List ℕ) (v : ℕ) (S : Standing w p) where
  -- ---- the page after an insert, accepted or not
  abbrev entry : Entry
  entry = record { key = k; value = v }

  takes : IsBytes p → IsBytes k → Hold (insert_checks w p k v) → Takes w p entry
  unfolding insert_checks all fit_of
  takes b hk H =
      let a1 = both_parts (eqb (length p) 16384) _ H in
      let a2 = both_parts (is_width w) _ a1.1 in
      let a3 = both_parts (leb (length k) 65535) _ a2.1 in
      let a5 = both_parts (eqb (fit_of w p) 0) _ a3.1 in
      let a7 = both_parts (fits_width w v) _ a5.1 in
      let a8 = both_parts (has_prefix (frame_of p) k) _ a7.1 in
      let a9 = both_parts (inside (frame_of p) k) _ a8.1 in
      let a11 = both_parts (all (differ k) (keys (listing w p))) _ a9.1 in
      let a13 = both_parts (leb (need w (length (probe_suffix (frame_of p) k))) (free (numbers_of p))) _ a11.1 in
      record {
        size = S.size;
        bytes = b;
        width = S.width;
        fit = fit w (view_of w p) S.verdict;
        key_bytes = hk;
        value = a7.0;
        fenced = a9.0;
        absent = a11.0;
        room = leb-true (need w (length (probe_suffix (frame_of p) k))) (free (numbers_of p)) a13.0;
      }

  stands-filed : Takes w p entry → Standing w (insert_page w p k v)
  unfolding fit_of
  stands-filed T = record { size = size-after w p entry T; width = S.width; verdict = fit_back w (view_of w (insert_page w p k v)) (fit-after w p entry T) }

  stays : all_hold (insert_checks w p k v) ≡ false → insert_page w p k v ≡ p
  unfolding insert_page
  stays e = judge-pick (insert_checks w p k v) _ p ∙ rw e

  pub stands : IsBytes p → IsBytes k → Standing w (insert_page w p k v)
  stands b hk = go (all_hold (insert_checks w p k v)) refl
    where
      go : (t : Bool) → all_hold (insert_checks w p k v) ≡ t → Standing w (insert_page w p k v)
      go true e = stands-filed (takes b hk e)
      go false e = rw (stays e) S

  -- ---- the call
  pub one-long : 65535 < length k → (Err KeyLength ≡ insert_of w p k v) × ((p ≡ insert_page w p k v) × Standing w p)
  unfolding insert_of insert_page insert_checks judge
  one-long l = let x1 = eq-eqb (length p) 16384 S.size in let x3 = lt-leb (length k) 65535 l in (rw (x1, S.width, x3), (rw (x1, S.width, x3), S))

  admitted : length k ≤ 65535 → fit_admit_of w p (length k) ≡ Ok (header_of p)
  unfolding fit_admit_of judge
  admitted l = let x1 = eq-eqb (length p) 16384 S.size in rw (x1, S.width, le-leb (length k) 65535 l, S.verdict)

  pub one-filed : IsBytes p → IsBytes k → length k ≤ 65535 → (r : Result ℕ Refusal) → r ≡ insert_with w p k v → (q : List ℕ) → q ≡ inserted_with w p k v
      → (r ≡ insert_of w p k v) × ((q ≡ insert_page w p k v) × Standing w q)
  one-filed b hk l r e q d =
      let call = insert-fitted w p k v (header_of p) (admitted l) in
      (e ∙ call.0, (d ∙ call.1, rw (d, call.1) (stands b hk)))
