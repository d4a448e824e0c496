-- Change key on a fit page by a header: the tests are the paper's, a refusal keeps the page, and where all hold the slot takes the suffix. Assumes
-- nothing.
use Rattle.std.proofs.Common.{◌≡◌, refl, sym, ap, ◌∙◌, Bool, true, false, List, ℕ, ◌+◌, ◌-◌, ◌*◌, ◌≤◌, ◌<◌, arith, lt-ltb, le-ltb, ltb-true, leb, ltb, length, length-drop, Ok, Err}
use Rattle.octets.specs.Bytes.{IsBytes}
use Rattle.paper.specs.Lists.{all}
use Rattle.paper.specs.Page.{slot_at, place, slot_of, frame_of, numbers_of, header_of, view_of}
use Rattle.paper.specs.Verdicts.{inside, fit_of}
use Rattle.paper.specs.Listing.{listing, keys}
use Rattle.paper.specs.Refusals.{judge}
use Rattle.paper.specs.Edits.{outgrows, key_changed}
use Rattle.paper.specs.Searches.{probe_suffix}
use Rattle.paper.specs.Calls.{is_width, has_prefix, between, room_for_key, change_checks, change_of, change_page}
use Rattle.paper.specs.declared.page.Slot.{Slot}
use Rattle.paper.specs.declared.page.Header.{Header}
use Rattle.paper.specs.declared.refusal.Refusal.{Refusal}
use Rattle.paper.specs.declared.refusal.Refusal.TheVariants.{Prefix, OutsideFences, SlotNumber, Neighbours, NoRoom}
use Rattle.paper.proofs.Lists.{both_parts}
use Rattle.paper.proofs.Fit.{Fit, Rules, fit}
use Rattle.paper.proofs.Filing.{frame-rules}
use Rattle.paper.proofs.Holding.{Hold, judge_hold, done_holds, refused-judge, judge-append}
use Rattle.node.proofs.Entries.{width_whole}
use Rattle.search.specs.Probe.{class_by, class_number}
use Rattle.search.specs.Fence.{inside_by}
use Rattle.search.proofs.Classes.{has-prefix, lacks-prefix}
use Rattle.search.proofs.Fences.{inside_is}
use Rattle.search.proofs.Asked.{slots-fit, prefix_fits, inside_asked}
use Rattle.verdict.specs.Fits.{fit_checks, fit_admit_of}
use Rattle.verdict.proofs.Fitness.{fitted-judge, unfit-judge}
use Rattle.write.specs.Room.{Seat}
use Rattle.write.proofs.Givens.{seat-given}
use Rattle.edit.specs.Changed.{Lying, between_by, change_tests, change_with, page_with}
use Rattle.edit.proofs.Neighbouring.{all-lying, between_is}

-- ---- a page that is fit, with its header
module _ (w : ℕ) (p : List ℕ) (size : length p ≡ 16384) (fitted : fit_of w p ≡ 0) where
  fits : Fit w (view_of w p)
  unfolding fit_of
  fits = fit w (view_of w p) fitted

  pub header-rules : Rules (frame_of p) (numbers_of p)
  header-rules = frame-rules w p size fits

  module _ (h : Header) (e : h ≡ header_of p) (i : ℕ) (there : i < h.count) where
    -- what the neighbours of slot i ask for
    pub neighbours-lie : (i < h.count) × (96 + 8 * h.count ≤ length p) × Lying p h.count
    unfolding header_of
    neighbours-lie = (there, omega (arith, size, slots-fit p h e header-rules), rw e (all-lying w p size fits))

    -- what its room asks for
    pub slot_lies : (h ≡ header_of p) × (h.start ≤ h.end) × (104 + 8 * i ≤ length p)
    unfolding header_of
    slot_lies = (e, rw e header-rules.order, omega (arith, size, slots-fit p h e header-rules, there))

-- ---- 13; s is slot i as it was read, o whether the suffix x outgrows it
module _ (w : ℕ) (p : List ℕ) (i : ℕ) (x : List ℕ) (s : Slot) (e : s ≡ slot_at p (place i)) (o : Bool) (f : o ≡ outgrows s x) where
  old : outgrows (slot_of p i) x ≡ o
  unfolding slot_of
  old = sym (f ∙ ap (λ (a : Slot). outgrows a x) e)

  pub room-kept : o ≡ false → true ≡ room_for_key w p i x
  unfolding room_for_key
  room-kept g = rw (old, g)

  pub room-new : (h : Header) → h ≡ header_of p → o ≡ true → leb (length x + w) (h.end - h.start) ≡ room_for_key w p i x
  unfolding room_for_key header_of
  room-new h d g = rw (old, g, d)

-- ---- the tests; c is the class as a number, x the key's suffix, t whether it lies inside, u whether between its neighbours, v whether there is room
module _ (w : ℕ) (p k : List ℕ) (i : ℕ) (h : Header) (e : h ≡ header_of p) (c : ℕ) (f : c ≡ class_number (class_by p h.prefix_len k)) where
  count-is : h.count ≡ (numbers_of p).count
  unfolding header_of
  count-is = rw e

  pub change-lacks : (c ≡ 1 → ⊥) → change_with w p i k ≡ Err Prefix
  unfolding change_with judge
  change-lacks g = rw (lacks-prefix p k h e c f g)

  module _ (one : c ≡ 1) (x : List ℕ) (d : x ≡ probe_suffix (frame_of p) k) (t : Bool) (g : t ≡ inside_by p (header_of p) x) where
    has : has_prefix (frame_of p) k ≡ true
    has = has-prefix p k h e c f one

    lies : inside (frame_of p) k ≡ t
    lies = sym (g ∙ inside_is p k has (header_of p) x refl d)

    pub change-outside : t ≡ false → change_with w p i k ≡ Err OutsideFences
    unfolding change_with judge
    change-outside l = rw (has, lies, l)

    module _ (l : t ≡ true) where
      pub change-absent : h.count ≤ i → change_with w p i k ≡ Err SlotNumber
      unfolding change_with judge
      change-absent m = rw (has, lies, l, le-ltb i (numbers_of p).count (omega (arith, count-is)))

      module _ (there : i < h.count) (size : length p ≡ 16384) (fitted : fit_of w p ≡ 0) (b : IsBytes p) (u : Bool) (m : u ≡ between_by p h.count i x) where
        below : i < (numbers_of p).count
        below = omega (arith, count-is)

        amid : between (keys (listing w p)) i k ≡ u
        amid = between_is w p size (fits w p size fitted) b k (lies ∙ l) i below ∙ sym (rw (← d, ← count-is) m)

        pub change-apart : u ≡ false → change_with w p i k ≡ Err Neighbours
        unfolding change_with judge
        change-apart q = rw (has, lies, l, lt-ltb i (numbers_of p).count below, amid, q)

        module _ (q : u ≡ true) (v : Bool) (r : v ≡ room_for_key w p i x) where
          room : room_for_key w p i (probe_suffix (frame_of p) k) ≡ v
          room = sym (r ∙ ap (room_for_key w p i) d)

          pub change-full : v ≡ false → change_with w p i k ≡ Err NoRoom
          unfolding change_with judge
          change-full n = rw (has, lies, l, lt-ltb i (numbers_of p).count below, amid, q, room, n)

          pub change-free : v ≡ true → change_with w p i k ≡ Ok tt
          unfolding change_with judge
          change-free n = rw (has, lies, l, lt-ltb i (numbers_of p).count below, amid, q, room, n)

-- ---- the call's half after the fit test
module _ (w : ℕ) (p : List ℕ) (i : ℕ) (k : List ℕ) where
  abbrev new : List ℕ
  new = key_changed w p i (probe_suffix (frame_of p) k)

  pub change-kept : (q : Refusal) → change_with w p i k ≡ Err q → p ≡ page_with w p i k
  unfolding change_with page_with
  change-kept q e = sym (refused-judge (change_tests w p i k) tt q e new (λ r. p))

  -- x is the key's suffix
  module _ (e : change_with w p i k ≡ Ok tt) (x : List ℕ) (d : x ≡ probe_suffix (frame_of p) k) where
    holds : Hold (change_tests w p i k)
    unfolding change_with
    holds = done_holds (change_tests w p i k) e

    pub change-seat : (h : Header) → length p ≡ 16384 → is_width w ≡ true → fit_of w p ≡ 0 → h ≡ header_of p → length k ≤ 65535 → Seat w p h i x
    unfolding all
    change-seat h size known fitted f few =
        let a = both_parts (has_prefix (frame_of p) k) _ holds in
        let b = both_parts (inside (frame_of p) k) _ a.1 in
        let c = both_parts (ltb i (numbers_of p).count) _ b.1 in
        let n = both_parts (between (keys (listing w p)) i k) _ c.1 in
        let r = both_parts (room_for_key w p i (probe_suffix (frame_of p) k)) _ n.1 in
        rw (f, d)
        (seat-given w p size (fits w p size fitted) i (probe_suffix (frame_of p) k) (omega (arith, width_whole w known)) (rw (length-drop (frame_of p).prefix_len k) (omega arith))
        (ltb-true i (numbers_of p).count c.0) r.0)

    pub change-written : (q : List ℕ) → q ≡ key_changed w p i x → (Ok tt ≡ change_with w p i k) × (q ≡ page_with w p i k)
    unfolding page_with
    change-written q f = (sym e, f ∙ ap (key_changed w p i) d ∙ sym (judge_hold (change_tests w p i k) new (λ r. p) holds))

  -- ---- the whole call
  split : {A : Type 0} (a : A) (r : Refusal → A) → judge (change_checks w p i k) a r ≡ judge (fit_checks w p (length k)) (judge (change_tests w p i k) a r) r
  unfolding change_checks
  split a r = judge-append (fit_checks w p (length k)) (change_tests w p i k) a r

  pub change-refused : (q : Refusal) → fit_admit_of w p (length k) ≡ Err q → (Err q ≡ change_of w p i k) × (p ≡ change_page w p i k)
  unfolding change_of change_page
  change-refused q e =
      (sym (split (Ok tt) Err ∙ unfit-judge w p (length k) q e _ Err), sym (split new (λ r. p) ∙ unfit-judge w p (length k) q e _ (λ r. p)))

  pub change-fitted : (h : Header) → fit_admit_of w p (length k) ≡ Ok h → (change_with w p i k ≡ change_of w p i k) × (page_with w p i k ≡ change_page w p i k)
  unfolding change_of change_page change_with page_with
  change-fitted h e =
      (sym (split (Ok tt) Err ∙ fitted-judge w p (length k) h e _ Err), sym (split new (λ r. p) ∙ fitted-judge w p (length k) h e _ (λ r. p)))

pub ruleset by_room = (room-kept, room-new)

pub ruleset by_tests = (prefix_fits, header-rules, inside_asked, neighbours-lie, slot_lies, change-lacks, change-outside, change-absent, change-apart, change-full, change-free)
