-- Run copy: each way out of its tests is a case of the judgement, and what the tests found is what the writing half asks for. Assumes nothing.
use Rattle.std.proofs.Common.{◌≡◌, refl, sym, ap, ◌∙◌, ⊎_elim, Bool, true, false, List, [], ◌∷◌, ◌++◌, ℕ, ◌+◌, ◌-◌, ◌≤◌, ◌<◌, arith, eqb-true, eq-eqb, ne_eqb, leb-true, le-leb, leb, eqb, length, Result, Ok, Err}
use Rattle.std.specs.Prelude.{⊤}
use borrow.Author.Tests.{lt-leb}
use Rattle.keys.specs.Choice.{pick}
use Rattle.keys.proofs.Numbers.{alike?}
use Rattle.paper.specs.Lists.{all, sum}
use Rattle.paper.specs.Page.{slot_of, frame_of, numbers_of, header_of, view_of}
use Rattle.paper.specs.Space.{free}
use Rattle.paper.specs.Verdicts.{fit_of}
use Rattle.paper.specs.Listing.{listing, keys}
use Rattle.paper.specs.Refusals.{Check, check, judge}
use Rattle.paper.specs.Edits.{run_copied}
use Rattle.paper.specs.Calls.{is_width, has_prefix, key_at, run, entry_checks, above_last, need_of_all, run_checks, run_of, run_page}
use Rattle.paper.specs.declared.page.Header.{Header}
use Rattle.paper.specs.declared.refusal.Refusal.{Refusal}
use Rattle.paper.specs.declared.refusal.Refusal.TheVariants.{PageLength, Width, NotFit, SlotNumber, Neighbours, NoRoom}
use Rattle.paper.proofs.Lists.{both_parts, all_parts}
use Rattle.paper.proofs.Same.{body_bytes_long}
use Rattle.paper.proofs.Fit.{Fit, Rules, fit}
use Rattle.paper.proofs.Filing.{frame-rules}
use Rattle.paper.proofs.Holding.{Hold, judge_hold, done_holds, refused-judge, judge-append}
use Rattle.search.proofs.Asked.{prefix_fits, fences-fit}
use Rattle.verdict.specs.Fits.{fit_header_of}
use Rattle.write.specs.Room.{Source, Ready}
use Rattle.write.proofs.Givens.{payload-given, source-given, ready-given}
use Rattle.edit.specs.RunTests.{Shown, Fenced, standing_from, passes_last, needs_from, run_tests, run_judged, run_written}
use Rattle.edit.proofs.Cuts.{gone-is}
use Rattle.edit.proofs.RunKeys.{first-held, standing-run, needs-run, above-run}

-- ---- a width that is known
width-most : (w : ℕ) → is_width w ≡ true → w ≤ 8
unfolding is_width
width-most w e = ⊎_elim (λ h. omega arith) (λ h. ⊎_elim (λ l. omega arith) (λ l. let z = eqb-true w 8 (rw (ne_eqb w 0 h, ne_eqb w 1 l) at e) in omega arith) (alike? w 1)) (alike? w 0)

-- ---- a page that is fit, by its header
module _ (w : ℕ) (p : List ℕ) (size : length p ≡ 16384) (fitted : fit_of w p ≡ 0) (h : Header) (e : h ≡ header_of p) where
  facts : Fit w (view_of w p)
  unfolding fit_of
  facts = fit w (view_of w p) fitted

  rules : Rules (frame_of p) (numbers_of p)
  rules = frame-rules w p size facts

  pub shown-given : Shown p h.prefix_len
  unfolding header_of
  shown-given =
      record {
        size = size;
        prefix = ap (λ (g : Header). g.prefix_len) e;
        most = prefix_fits p h e rules;
        slots = omega (arith, rules.start, rules.order, rules.top);
        rows = λ j k l. let m = payload-given w p size facts j k in omega (arith, body_bytes_long 4 (slot_of p j).len l);
      }

  pub fenced-given : Fenced p h
  fenced-given = let f = fences-fit p h e rules size in record { header = e; shown = shown-given; lower = f.0; upper = f.1 }

  pub order-given : h.start ≤ h.end
  unfolding header_of
  order-given = rw e rules.order

-- ---- 10 and the tests after it
module _ (w : ℕ) (p q : List ℕ) (a n : ℕ) where
  -- 12 and 13
  abbrev lastChecks : List Check
  lastChecks =
      check (above_last (keys (listing w p)) (run w q a n)) Neighbours
      ∷ check (leb (need_of_all w p (run w q a n)) (free (numbers_of p))) NoRoom
      ∷ []

  past : (numbers_of q).count < a + n → Err SlotNumber ≡ run_judged w p q a n
  unfolding run_judged judge
  past l = rw (lt-leb (a + n) (numbers_of q).count l)

  parted : a + n ≤ (numbers_of q).count → run_judged w p q a n ≡ judge (entry_checks p (run w q a n)) (judge lastChecks (Ok tt) Err) Err
  unfolding run_judged
  parted l = first ∙ judge-append (entry_checks p (run w q a n)) lastChecks (Ok tt) Err
    where
      first : ◌≡◌ {A = Result ⊤ Refusal} (judge (run_tests w p q a n) (Ok tt) Err) (judge (entry_checks p (run w q a n) ++ lastChecks) (Ok tt) Err)
      first = unfold judge in rw (le-leb (a + n) (numbers_of q).count l)

  -- the source has `count` entries, and its prefix m bytes
  module _ (h : Header) (F : Fenced p h) (m : ℕ) (Q : Shown q m) (count : ℕ) (G : count ≡ (numbers_of q).count) where
    pub judged-beyond : count < a → Err SlotNumber ≡ run_judged w p q a n
    judged-beyond l = past (omega (arith, G))

    module _ (l : a ≤ count) where
      pub judged-past : count - a < n → Err SlotNumber ≡ run_judged w p q a n
      judged-past k = past (omega (arith, G))

      module _ (k : n ≤ count - a) where
        pub there : a + n ≤ (numbers_of q).count
        there = omega (arith, G)

        pub judged-none : n ≡ 0 → Ok tt ≡ run_judged w p q a n
        judged-none z = sym (parted there ∙ empty z)
          where
            empty : n ≡ 0 → ◌≡◌ {A = Result ⊤ Refusal} (judge (entry_checks p (run w q a n)) (judge lastChecks (Ok tt) Err) Err) (Ok tt)
            empty z = unfold judge entry_checks above_last need_of_all sum in rw (z, le-leb 0 (free (numbers_of p)) (omega arith))

        -- r is what 8 and 9 said
        module _ (some : n ≡ 0 → ⊥) (r : Result ⊤ Refusal) (f : r ≡ standing_from p q a n) where
          stood : judge (entry_checks p (run w q a n)) (Ok tt) Err ≡ r
          stood = standing-run w q p n a there ∙ sym f

          pub judged-entry : (x : Refusal) → r ≡ Err x → Err x ≡ run_judged w p q a n
          judged-entry x t =
              sym
              (parted there
              ∙ refused-judge (entry_checks p (run w q a n)) tt x (stood ∙ t) (judge lastChecks (Ok tt) Err) Err)

          module _ (t : r ≡ Ok tt) where
            pub first-asked : (a < (numbers_of q).count) × (has_prefix (frame_of p) (key_at q (slot_of q a)) ≡ true)
            first-asked = (omega (arith, there), first-held p q a n some r f t)

            ended : run_judged w p q a n ≡ judge lastChecks (Ok tt) Err
            ended = parted there ∙ judge_hold (entry_checks p (run w q a n)) (judge lastChecks (Ok tt) Err) Err (done_holds (entry_checks p (run w q a n)) (stood ∙ t))

            -- b is what 12 said
            module _ (b : Bool) (d : b ≡ passes_last p h.count (key_at q (slot_of q a))) where
              above-is : above_last (keys (listing w p)) (run w q a n) ≡ b
              unfolding header_of
              above-is = above-run w q p n a some there ∙ sym (d ∙ ap (λ (x : Header). passes_last p x.count (key_at q (slot_of q a))) F.header)

              pub judged-neighbours : b ≡ false → Err Neighbours ≡ run_judged w p q a n
              unfolding judge
              judged-neighbours y = sym (ended ∙ rw (above-is, y))

              -- c is what 13 said
              module _ (y : b ≡ true) (c : Bool) (z : c ≡ leb (needs_from w h.prefix_len m q a n) (h.end - h.start)) where
                room_is : leb (need_of_all w p (run w q a n)) (free (numbers_of p)) ≡ c
                room_is = rw (needs-run w q p m Q n a there, gone-is p h F, free-is) (sym z)
                  where
                    free-is : free (numbers_of p) ≡ h.end - h.start
                    free-is = unfold header_of in ap (λ (x : Header). x.end - x.start) (sym F.header)

                pub judged-full : c ≡ false → Err NoRoom ≡ run_judged w p q a n
                unfolding judge
                judged-full v = sym (ended ∙ rw (above-is, y, room_is, v))

                pub judged-done : c ≡ true → Ok tt ≡ run_judged w p q a n
                unfolding judge
                judged-done v = sym (ended ∙ rw (above-is, y, room_is, v))

  -- ---- then the entries are written; r is what the tests said
  module _ (r : Result ⊤ Refusal) (f : r ≡ run_judged w p q a n) where
    pub copy-refused : (x : Refusal) → r ≡ Err x → (Err x ≡ run_judged w p q a n) × (p ≡ run_written w p q a n)
    unfolding run_written run_judged
    copy-refused x t =
        (sym t ∙ f, sym (refused-judge (run_tests w p q a n) tt x (sym f ∙ t) (run_copied w p (run w q a n)) (λ y. p)))

    module _ (t : r ≡ Ok tt) where
      held : Hold (run_tests w p q a n)
      unfolding run_judged
      held = done_holds (run_tests w p q a n) (sym f ∙ t)

      rooms : (a + n ≤ (numbers_of q).count) × (need_of_all w p (run w q a n) ≤ free (numbers_of p))
      unfolding all
      rooms =
          let x1 = both_parts (leb (a + n) (numbers_of q).count) _ held in
          let x2 = all_parts (λ (c : Check). c.holds) (entry_checks p (run w q a n)) _ x1.1 in
          let x3 = both_parts (above_last (keys (listing w p)) (run w q a n)) _ x2.1 in
          let x4 = both_parts (leb (need_of_all w p (run w q a n)) (free (numbers_of p))) _ x3.1 in
          (leb-true (a + n) (numbers_of q).count x1.0, leb-true (need_of_all w p (run w q a n)) (free (numbers_of p)) x4.0)

      pub copy-asked : length p ≡ 16384 → fit_of w p ≡ 0 → (h : Header) → h ≡ header_of p → length q ≡ 16384 → fit_of w q ≡ 0 → (g : Header) → g ≡ header_of q → is_width w ≡ true
          → (Source w q g.prefix_len) × (a + n ≤ (numbers_of q).count) × (Ready w p h (run w q a n))
      copy-asked sp fp h eh sq fq g eg k = (
        rw eg (source-given w q sq (facts w q sq fq g eg) (width-most w k)),
        rooms.0,
        rw eh (ready-given w p sp (facts w p sp fp h eh) (run w q a n) rooms.1),
      )

      pub copy_done : (x : List ℕ) → x ≡ run_copied w p (run w q a n) → (Ok tt ≡ run_judged w p q a n) × (x ≡ run_written w p q a n)
      unfolding run_written
      copy_done x e = (sym t ∙ f, e ∙ sym (judge_hold (run_tests w p q a n) (run_copied w p (run w q a n)) (λ y. p) held))

pub ruleset by_tests = (judged-beyond, judged-past, there, judged-none, judged-entry, first-asked, judged-neighbours, judged-full, judged-done)

-- ---- P, H and Q are page, header and source as they are lent together
module _ (p P : List ℕ) (h H : Header) (q Q : List ℕ) (e : (P ≡ p) × (H ≡ h) × (Q ≡ q)) where
  pub lent-asked : (g : Header) → g ≡ header_of q → h.start ≤ h.end → (g.count ≡ (numbers_of Q).count) × (H.start ≤ H.end)
  unfolding header_of
  lent-asked g f o = rw (e.1, e.2) (ap (λ (x : Header). x.count) f, o)

  pub lent-judged : (w a n : ℕ) (r : Result ⊤ Refusal) → r ≡ run_judged w P Q a n → r ≡ run_judged w p q a n
  lent-judged w a n r f = f ∙ rw (e.0, e.2)

-- ---- what 5 said of a page
unfit : (w : ℕ) (p : List ℕ) (x : Refusal) → fit_header_of w p ≡ Err x → (eqb (fit_of w p) 0 ≡ false) × (NotFit (fit_of w p) ≡ x)
unfolding fit_header_of judge
unfit w p x e = go (eqb (fit_of w p) 0) e
  where
    go : (t : Bool) → ◌≡◌ {A = Result Header Refusal} (pick t (Ok (header_of p)) (Err (NotFit (fit_of w p)))) (Err x) → (t ≡ false) × (NotFit (fit_of w p) ≡ x)
    go true e = absurd (let z : ◌≡◌ {A = ℕ} 0 1 = cc in omega arith)
    go false e = (refl, cc)

pub fit-told : (w : ℕ) (p : List ℕ) (h : Header) → fit_header_of w p ≡ Ok h → (fit_of w p ≡ 0) × (h ≡ header_of p)
unfolding fit_header_of judge
fit-told w p h e = let r = go (eqb (fit_of w p) 0) e in (eqb-true (fit_of w p) 0 r.0, r.1)
  where
    go : (t : Bool) → ◌≡◌ {A = Result Header Refusal} (pick t (Ok (header_of p)) (Err (NotFit (fit_of w p)))) (Ok h) → (t ≡ true) × (h ≡ header_of p)
    go true e = (refl, cc)
    go false e = absurd (let z : ◌≡◌ {A = ℕ} 0 1 = cc in omega arith)

-- ---- the whole call
module _ (w : ℕ) (p q : List ℕ) (a n : ℕ) where
  pub run-size : (length p ≡ 16384 → ⊥) → (Err PageLength ≡ run_of w p q a n) × (p ≡ run_page w p q a n)
  unfolding run_of run_page run_checks judge
  run-size s = rw (ne_eqb (length p) 16384 s) (refl, refl)

  module _ (s : length p ≡ 16384) where
    pub run-source : (length q ≡ 16384 → ⊥) → (Err PageLength ≡ run_of w p q a n) × (p ≡ run_page w p q a n)
    unfolding run_of run_page run_checks judge
    run-source o = rw (eq-eqb (length p) 16384 s, ne_eqb (length q) 16384 o) (refl, refl)

    module _ (o : length q ≡ 16384) where
      pub run-width : is_width w ≡ false → (Err Width ≡ run_of w p q a n) × (p ≡ run_page w p q a n)
      unfolding run_of run_page run_checks judge
      run-width k = rw (eq-eqb (length p) 16384 s, eq-eqb (length q) 16384 o, k) (refl, refl)

      module _ (k : is_width w ≡ true) where
        pub run-unfit : (x : Refusal) → fit_header_of w p ≡ Err x → (Err x ≡ run_of w p q a n) × (p ≡ run_page w p q a n)
        unfolding run_of run_page run_checks judge
        run-unfit x e = let u = unfit w p x e in rw (eq-eqb (length p) 16384 s, eq-eqb (length q) 16384 o, k, u.0, u.1) (refl, refl)

        module _ (h : Header) (e : fit_header_of w p ≡ Ok h) where
          pub run-unfit-source : (x : Refusal) → fit_header_of w q ≡ Err x → (Err x ≡ run_of w p q a n) × (p ≡ run_page w p q a n)
          unfolding run_of run_page run_checks judge
          run-unfit-source x d =
              let u = unfit w q x d in
              rw (eq-eqb (length p) 16384 s, eq-eqb (length q) 16384 o, k, eq-eqb (fit_of w p) 0 (fit-told w p h e).0, u.0, u.1) (refl, refl)

          pub run-fitted : (g : Header) → fit_header_of w q ≡ Ok g → (r : Result ⊤ Refusal) (x : List ℕ) → r ≡ run_judged w p q a n → x ≡ run_written w p q a n
              → (r ≡ run_of w p q a n) × (x ≡ run_page w p q a n)
          unfolding run_of run_page run_checks run_judged run_written judge
          run-fitted g d r x er ex =
              rw (eq-eqb (length p) 16384 s, eq-eqb (length q) 16384 o, k, eq-eqb (fit_of w p) 0 (fit-told w p h e).0, eq-eqb (fit_of w q) 0 (fit-told w q g d).0) (er, ex)
