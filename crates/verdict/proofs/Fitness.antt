-- The verdicts by the page's own header are the paper's; a page that is fit as a caller finds it: what is known of it, and how a call with these tests
-- goes on or is refused alike. Assumes nothing.
use Rattle.std.proofs.Common.{◌≡◌, refl, sym, ◌∙◌, Bool, true, false, not, List, ℕ, ◌≤◌, arith, eqb-true, eq-eqb, ne_eqb, leb-true, le-leb, leb, eqb, length, None, Some, Ok, Err}
use Rattle.keys.specs.Choice.{both}
use Rattle.paper.specs.Lists.{every, all}
use Rattle.paper.specs.Page.{view_of, header_of}
use Rattle.paper.specs.Verdicts.{header_rules, fit_view, fit_of, empty_leaf, layout_view, layout_of}
use Rattle.paper.specs.Refusals.{judge}
use Rattle.paper.specs.Calls.{is_width}
use Rattle.paper.specs.declared.page.Header.{Header}
use Rattle.paper.specs.declared.refusal.Refusal.{Refusal}
use Rattle.paper.specs.declared.refusal.Refusal.TheVariants.{NotFit}
use Rattle.paper.proofs.Lists.{both_parts}
use Rattle.paper.proofs.Fit.{Fit, fit}
use Rattle.paper.proofs.Holding.{Hold, judge_hold, answer_holds, refused-judge}
use Rattle.node.specs.Header.{rules_of}
use Rattle.node.proofs.Rules.{rules_of_lem}
use Rattle.verdict.specs.Pieces.{held_with, disjoint_with}
use Rattle.verdict.specs.Tally.{tally_of, fences_rise_with}
use Rattle.verdict.specs.Weighed.{broken_with}
use Rattle.verdict.proofs.Fitting.{broken_number, broken-above}
use Rattle.std.specs.Option.{unwrap_or}
use Rattle.verdict.specs.Fits.{fit_with, empty_leaf_with, order_with, layout_with, fit_checks, fit_header_of, fit_admit_of}
use Rattle.verdict.proofs.Pieced.{u2_is, u3_is}
use Rattle.verdict.proofs.Judged.{u4-is, u5-is, u6-is, u7-is, u8_is, u9-is, rise-is}

module _ (w : ℕ) (p : List ℕ) where
  u1-is : header_rules (view_of w p).frame (view_of w p).numbers ≡ rules_of (header_of p)
  unfolding view_of
  u1-is = sym (rules_of_lem p)

  pub fit_is : fit_of w p ≡ fit_with w p (header_of p)
  unfolding fit_of fit_view fit_with
  fit_is = rw (u1-is, u2_is w p, u3_is w p, u4-is w p, u5-is w p, u6-is w p, u7-is w p, u8_is w p, u9-is w p)

  leaf-is : empty_leaf (view_of w p) ≡ empty_leaf_with (header_of p)
  unfolding empty_leaf empty_leaf_with view_of header_of
  leaf-is = refl

  pub layout_is : layout_of w p ≡ layout_with w p (header_of p)
  unfolding layout_of layout_view layout_with order_with every
  layout_is =
      let h = header_of p in
      let t = tally_of w p h h.count in
      rw (u1-is, leaf-is, u2_is w p, u3_is w p, rise-is w p, u6-is w p, u7-is w p)
      (go (rules_of h) (not (empty_leaf_with h)) (held_with w p h) (disjoint_with w p h) (both (fences_rise_with p h) (both t.inside (both t.rising true))))
    where
      -- a test of tests at the end
      go : (a b c d e : Bool) → both a (both b (both c (both d e))) ≡ both a (both b (both c (both d (both e true))))
      go a b c d true = refl
      go a b c d false = refl

  -- ---- the header of a page that is fit, by the first rule broken
  pub found : unwrap_or (broken_with w p (header_of p)) 0 ≡ fit_of w p
  found = broken_number w p (header_of p) ∙ sym fit_is

  pub unfit-header : (u : ℕ) → broken_with w p (header_of p) ≡ Some u → Err (NotFit u) ≡ fit_header_of w p
  unfolding fit_header_of judge
  unfit-header u e =
      let f : fit_of w p ≡ u = sym found ∙ rw e in
      let above = broken-above w p (header_of p) u e in
      rw (f, ne_eqb u 0 (λ k. omega arith))

  pub fit-header : (h : Header) → h ≡ header_of p → broken_with w p (header_of p) ≡ None → Ok h ≡ fit_header_of w p
  unfolding fit_header_of judge
  fit-header h e k =
      let f : fit_of w p ≡ 0 = sym found ∙ rw k in
      rw (f, ← e)

  -- ---- 1, 2, 3, 5; n is the key's length
  module _ (n : ℕ) where
    pub fit-tests : length p ≡ 16384 → is_width w ≡ true → n ≤ 65535 → fit_admit_of w p n ≡ fit_header_of w p
    unfolding fit_admit_of fit_header_of judge
    fit-tests a b c = rw (eq-eqb (length p) 16384 a, b, le-leb n 65535 c)

-- ---- a page that a call may edit: what is known of it
pub record Fitted (w : ℕ) (p : List ℕ) (n : ℕ) (h : Header) : Type 0 where
  pub header : h ≡ header_of p
  pub size : length p ≡ 16384
  pub width : is_width w ≡ true
  pub key_length : n ≤ 65535
  pub verdict : fit_of w p ≡ 0

module _ (w : ℕ) (p : List ℕ) (n : ℕ) where
  holds : (h : Header) → fit_admit_of w p n ≡ Ok h → Hold (fit_checks w p n)
  unfolding fit_admit_of
  holds h e = answer_holds (fit_checks w p n) (header_of p) h e

  pub fitted : (h : Header) → fit_admit_of w p n ≡ Ok h → Fitted w p n h
  unfolding all
  fitted h e =
      let H = holds h e in
      let a = both_parts (eqb (length p) 16384) _ H in
      let b = both_parts (is_width w) _ a.1 in
      let c = both_parts (leb n 65535) _ b.1 in
      let d = both_parts (eqb (fit_of w p) 0) _ c.1 in
      record {
        header = same h e;
        size = eqb-true (length p) 16384 a.0;
        width = b.0;
        key_length = leb-true n 65535 c.0;
        verdict = eqb-true (fit_of w p) 0 d.0;
      }
    where
      same : (h : Header) → fit_admit_of w p n ≡ Ok h → h ≡ header_of p
      same h e = let f : fit_admit_of w p n ≡ Ok (header_of p) = unfold fit_admit_of in judge_hold (fit_checks w p n) (Ok (header_of p)) Err (holds h e) in cc

  -- the rules as facts
  pub fitted-rules : (h : Header) → fit_admit_of w p n ≡ Ok h → Fit w (view_of w p)
  unfolding fit_of
  fitted-rules h e = fit w (view_of w p) (fitted h e).verdict

  -- a call with these tests goes on
  pub fitted-judge : (h : Header) → fit_admit_of w p n ≡ Ok h → {A : Type 0} (a : A) (r : Refusal → A) → judge (fit_checks w p n) a r ≡ a
  fitted-judge h e a r = judge_hold (fit_checks w p n) a r (holds h e)

  -- or is refused alike
  pub unfit-judge : (q : Refusal) → fit_admit_of w p n ≡ Err q → {A : Type 0} (a : A) (r : Refusal → A) → judge (fit_checks w p n) a r ≡ r q
  unfolding fit_admit_of
  unfit-judge q e a r = refused-judge (fit_checks w p n) (header_of p) q e a r
