-- Insert, way out by way out: the tests after the page was found fit, the slot and the room that the search and the header give, and the page that is written.
-- Assumes nothing.
use Rattle.std.proofs.Common.{◌≡◌, refl, sym, ◌∙◌, Bool, true, false, List, ℕ, ◌+◌, ◌-◌, ◌≤◌, arith, leb-true, leb, length, length-drop, Result, Ok, Err}
use Rattle.octets.specs.Bytes.{IsBytes, le}
use Rattle.keys.specs.Choice.{pick}
use Rattle.paper.specs.Lists.{all, differ}
use Rattle.paper.specs.Page.{body_bytes, frame_of, numbers_of, header_of}
use Rattle.paper.specs.Space.{need, free}
use Rattle.paper.specs.Verdicts.{inside}
use Rattle.paper.specs.Listing.{listing, keys}
use Rattle.paper.specs.Refusals.{judge}
use Rattle.paper.specs.Edits.{inserted}
use Rattle.paper.specs.Searches.{probe_suffix, scan, find_scan}
use Rattle.paper.specs.Calls.{fits_width, has_prefix, insert_checks, insert_of, insert_page}
use Rattle.paper.specs.declared.page.Header.{Header}
use Rattle.paper.specs.declared.refusal.Refusal.{Refusal}
use Rattle.paper.specs.declared.refusal.Refusal.TheVariants.{ValueRange, Prefix, OutsideFences, Present, NoRoom}
use Rattle.paper.proofs.Lists.{both_parts}
use Rattle.paper.proofs.Holding.{Hold, judge_hold, answer_holds, refused-judge}
use Rattle.paper.proofs.Searching.{r-le}
use Rattle.verdict.specs.Fits.{fit_admit_of}
use Rattle.search.specs.Probe.{class_by, class_number}
use Rattle.search.specs.Fence.{inside_by}
use Rattle.search.specs.Finds.{find_in}
use Rattle.search.proofs.Fences.{inside_is}
use Rattle.search.proofs.Asked.{start-read, end_read, inside_asked}
use Rattle.search.proofs.Scans.{found-scan}
use Rattle.write.specs.Room.{Room}
use Rattle.write.proofs.Givens.{room-given}
use Rattle.edit.specs.Tested.{Tested}
use Rattle.edit.specs.Inserts.{insert_tests, insert_with, inserted_with, room_with, place_by}
use Rattle.edit.proofs.Testing.{prefix-held, prefix-not, tested-fit, tested-rules, class-asked, find-asked, judge-refused, judge-fitted}
use Rattle.paper.specs.declared.answers.Found.{Found}
use Rattle.paper.specs.declared.answers.Found.TheVariants.{Equal, Smaller}

-- ---- the room; b is what was counted of the suffix
pub room_is : (w start end n b : ℕ) → b ≡ body_bytes 4 n → leb (8 + w + b) (end - start) ≡ room_with w start end n
unfolding room_with need
room_is w start end n b e = rw e

-- what it asks of a page that was tested; start and end as they were read, x is the key's suffix
pub room_asked : (w : ℕ) (p k : List ℕ) → Tested w p (length k) → (start : ℕ) → start ≡ le 2 p 4 → (end : ℕ) → end ≡ le 2 p 6
    → (x : List ℕ) → x ≡ probe_suffix (frame_of p) k → (start ≤ end) × (length x ≤ 65535)
unfolding header_of
room_asked w p k T start s end e x d =
    rw (start-read p start s, end_read p end e, d) ((tested-rules w p (length k) T).order, omega (arith, length-drop (frame_of p).prefix_len k, T.key_length))

-- ---- the slot; t says whether the value fits, n is the prefix's length and c the class as a number, x the key's suffix, u whether it lies inside
module _ (w : ℕ) (p k : List ℕ) (v : ℕ) (T : Tested w p (length k)) (t : Bool) (a : t ≡ fits_width w v) where
  pub place-range : t ≡ false → insert_with w p k v ≡ Err ValueRange
  unfolding insert_with judge
  place-range g = rw (← a, g)

  module _ (fits : t ≡ true) (n : ℕ) (r : n ≡ le 2 p 46) (c : ℕ) (f : c ≡ class_number (class_by p n k)) where
    pub place-lacks : (c ≡ 1 → ⊥) → insert_with w p k v ≡ Err Prefix
    unfolding insert_with judge
    place-lacks g = rw (← a, fits, prefix-not p k n r c f g)

    module _ (one : c ≡ 1) (x : List ℕ) (d : x ≡ probe_suffix (frame_of p) k) (u : Bool) (g : u ≡ inside_by p (header_of p) x) where
      has : has_prefix (frame_of p) k ≡ true
      has = prefix-held p k n r c f one

      lies : inside (frame_of p) k ≡ u
      lies = sym (g ∙ inside_is p k has (header_of p) x refl d)

      pub place-outside : u ≡ false → insert_with w p k v ≡ Err OutsideFences
      unfolding insert_with judge
      place-outside l = rw (← a, fits, has, lies, l)

      -- on a fit page the search finds what the scan does
      module _ (inner : u ≡ true) (start : ℕ) (s : start ≡ le 2 p 4) (end : ℕ) (e : end ≡ le 2 p 6) (room : Bool) (o : room ≡ room_with w start end (length x)) (b : IsBytes p) (hk : IsBytes k) where
        room_of : leb (need w (length (probe_suffix (frame_of p) k))) (free (numbers_of p)) ≡ room
        unfolding room_with header_of
        room_of = sym (o ∙ rw (start-read p start s, end_read p end e, d))

        by-scan : (s : Bool) (r : ℕ) → pick s (pick room (Ok r) (Err NoRoom)) (Err Present) ≡ place_by room (pick s (Ok (Smaller r)) (Ok (Equal r)))
        unfolding place_by
        by-scan true r = refl
        by-scan false r = refl

        pub place_found : (y : Result Found Refusal) → y ≡ find_in w p (header_of p) x → insert_with w p k v ≡ place_by room y
        unfolding insert_with judge find_scan
        place_found y m =
            let found = found-scan w p T.size b (tested-fit w p (length k) T) k hk has x d in
            rw (m, found, ← a, fits, has, lies, inner, room_of) (by-scan (all (differ k) (keys (listing w p))) (scan false k (listing w p)))

-- ---- the page
module _ (w : ℕ) (p k : List ℕ) (v : ℕ) where
  pub insert-kept : (q : Refusal) → insert_with w p k v ≡ Err q → p ≡ inserted_with w p k v
  unfolding insert_with inserted_with
  insert-kept q e =
      sym
      (refused-judge (insert_tests w p k v) (scan false k (listing w p)) q e _ (λ r. p))

  module _ (i : ℕ) (e : insert_with w p k v ≡ Ok i) where
    holds : Hold (insert_tests w p k v)
    unfolding insert_with
    holds = answer_holds (insert_tests w p k v) (scan false k (listing w p)) i e

    slot_is : i ≡ scan false k (listing w p)
    slot_is =
        let a : insert_with w p k v ≡ Ok (scan false k (listing w p)) =
        unfold insert_with in judge_hold (insert_tests w p k v) (Ok (scan false k (listing w p))) Err holds in
        cc

    enough : need w (length (probe_suffix (frame_of p) k)) ≤ free (numbers_of p)
    unfolding all
    enough =
        let a = both_parts (fits_width w v) _ holds in
        let b = both_parts (has_prefix (frame_of p) k) _ a.1 in
        let c = both_parts (inside (frame_of p) k) _ b.1 in
        let d = both_parts (all (differ k) (keys (listing w p))) _ c.1 in
        leb-true (need w (length (probe_suffix (frame_of p) k))) (free (numbers_of p)) (both_parts (leb (need w (length (probe_suffix (frame_of p) k))) (free (numbers_of p))) _ d.1).0

    -- x is the key's suffix
    module _ (x : List ℕ) (d : x ≡ probe_suffix (frame_of p) k) where
      pub insert-room : Tested w p (length k) → IsBytes p → Room w p (header_of p) i (length x)
      insert-room T b =
          let F = tested-fit w p (length k) T in
          rw d (room-given w p T.size F i (length (probe_suffix (frame_of p) k)) (rw slot_is (r-le w p T.size b F false k)) enough)

      pub insert-done : (q : List ℕ) → q ≡ inserted w p i x v → q ≡ inserted_with w p k v
      unfolding inserted_with
      insert-done q m =
          m
          ∙ rw (d, slot_is)
          (sym (judge_hold (insert_tests w p k v) (inserted w p (scan false k (listing w p)) (probe_suffix (frame_of p) k) v) (λ r. p) holds))

  -- ---- the whole call
  pub insert-refused : (q : Refusal) → fit_admit_of w p (length k) ≡ Err q → (Err q ≡ insert_of w p k v) × (p ≡ insert_page w p k v)
  unfolding insert_of insert_page insert_checks
  insert-refused q e =
      (sym (judge-refused w p (length k) (insert_tests w p k v) _ Err q e), sym (judge-refused w p (length k) (insert_tests w p k v) _ (λ r. p) q e))

  pub insert-fitted : (h : Header) → fit_admit_of w p (length k) ≡ Ok h → (insert_with w p k v ≡ insert_of w p k v) × (inserted_with w p k v ≡ insert_page w p k v)
  unfolding insert_of insert_page insert_checks insert_with inserted_with
  insert-fitted h e =
      (sym (judge-fitted w p (length k) (insert_tests w p k v) _ Err h e), sym (judge-fitted w p (length k) (insert_tests w p k v) _ (λ r. p) h e))

pub ruleset by_place = (inside_asked, tested-rules, class-asked, find-asked, room_asked, place-range, place-lacks, place-outside)
