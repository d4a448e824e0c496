-- The tests that the verdicts begin with: their ways out, what they say, and how a call goes on or is refused alike. Assumes nothing.
use Rattle.std.proofs.Common.{◌≡◌, ◌∙◌, true, false, List, ℕ, ◌≤◌, ◌<◌, arith, eqb-true, eq-eqb, ne_eqb, eqb, length, Ok, Err, Option}
use Rattle.std.specs.Option.{unwrap_or}
use borrow.Author.Tests.{lt-leb}
use Rattle.paper.specs.Page.{header_of}
use Rattle.paper.specs.Lists.{all}
use Rattle.paper.specs.Refusals.{judge}
use Rattle.paper.specs.Calls.{is_width, verdict_checks, fit_verdict, layout_verdict}
use Rattle.paper.specs.declared.refusal.Refusal.{Refusal}
use Rattle.paper.specs.declared.refusal.Refusal.TheVariants.{PageLength, Width, KeyLength}
use Rattle.paper.proofs.Holding.{Hold, done_holds, judge_hold, judge-append, refused-judge}
use Rattle.paper.proofs.Lists.{both_parts}
use Rattle.verdict.specs.Fits.{judgeable_of, layout_with, fit_header_of, fit_admit_of}
use Rattle.verdict.specs.Weighed.{broken_with}
use Rattle.verdict.proofs.Fitness.{found, layout_is, fit-tests}

module _ (w : ℕ) (p : List ℕ) where
  -- ---- the ways out
  pub judge-length : (length p ≡ 16384 → ⊥) → judgeable_of w p ≡ Err PageLength
  unfolding judgeable_of judge
  judge-length h = rw (ne_eqb _ _ h)

  pub judge-width : length p ≡ 16384 → is_width w ≡ false → judgeable_of w p ≡ Err Width
  unfolding judgeable_of judge
  judge-width h e = rw (eq-eqb _ _ h, e)

  pub judge-done : length p ≡ 16384 → is_width w ≡ true → judgeable_of w p ≡ Ok tt
  unfolding judgeable_of judge
  judge-done h e = rw (eq-eqb _ _ h, e)

  -- ---- what they say
  judged : judgeable_of w p ≡ Ok tt → Hold (verdict_checks w p)
  unfolding judgeable_of
  judged e = done_holds (verdict_checks w p) e

  judged-length : judgeable_of w p ≡ Ok tt → length p ≡ 16384
  unfolding all
  judged-length e = eqb-true (length p) 16384 (both_parts (eqb (length p) 16384) _ (judged e)).0

  judged-width : judgeable_of w p ≡ Ok tt → is_width w ≡ true
  unfolding all
  judged-width e = (both_parts (is_width w) _ (both_parts (eqb (length p) 16384) _ (judged e)).1).0

  pub judged-size : judgeable_of w p ≡ Ok tt → 16384 ≤ length p
  judged-size e = let h = judged-length e in omega (arith, h)

  -- ---- a verdict goes on
  pub fit-shut : (q : Refusal) → judgeable_of w p ≡ Err q → fit_verdict w p ≡ Err q
  unfolding judgeable_of fit_verdict
  fit-shut q e = refused-judge (verdict_checks w p) tt q e _ Err

  pub fit-judged : (r : Option ℕ) → judgeable_of w p ≡ Ok tt → r ≡ broken_with w p (header_of p) → fit_verdict w p ≡ Ok (unwrap_or r 0)
  unfolding fit_verdict
  fit-judged r e f = judge_hold (verdict_checks w p) _ Err (judged e) ∙ rw (f, found w p)

  pub layout-shut : (q : Refusal) → judgeable_of w p ≡ Err q → layout_verdict w p ≡ Err q
  unfolding judgeable_of layout_verdict
  layout-shut q e = refused-judge (verdict_checks w p) tt q e _ Err

  pub layout-judged : judgeable_of w p ≡ Ok tt → layout_verdict w p ≡ Ok (layout_with w p (header_of p))
  unfolding layout_verdict
  layout-judged e = judge_hold (verdict_checks w p) _ Err (judged e) ∙ rw (layout_is w p)

  -- ---- a call on a page that is fit; n is the key's length
  module _ (n : ℕ) where
    pub admit-shut : (q : Refusal) → judgeable_of w p ≡ Err q → fit_admit_of w p n ≡ Err q
    unfolding judgeable_of fit_admit_of
    admit-shut q e = judge-append (verdict_checks w p) _ _ Err ∙ refused-judge (verdict_checks w p) tt q e _ Err

    pub admit-long : judgeable_of w p ≡ Ok tt → 65535 < n → fit_admit_of w p n ≡ Err KeyLength
    unfolding fit_admit_of judge
    admit-long e h = rw (judged-length e, judged-width e, lt-leb n 65535 h)

    pub admit-judged : judgeable_of w p ≡ Ok tt → n ≤ 65535 → fit_admit_of w p n ≡ fit_header_of w p
    admit-judged e h = fit-tests w p n (judged-length e) (judged-width e) h

pub ruleset judging = (judge-length, judge-width, judge-done)

pub ruleset verdicts = (judged-size, fit-shut, fit-judged, layout-shut, layout-judged)

pub ruleset admitting_fit = (judged-size, admit-shut, admit-long, admit-judged)
