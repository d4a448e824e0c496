-- An edit's first tests: what is known of a page that passed them, and how a call goes on after them or is refused alike. Assumes nothing.
use Rattle.std.proofs.Common.{◌≡◌, refl, ◌∙◌, true, false, List, ◌++◌, ℕ, ◌*◌, ◌≤◌, arith, length, Ok, Err}
use Rattle.octets.specs.Bytes.{le}
use Rattle.paper.specs.Page.{frame_of, numbers_of, header_of, view_of}
use Rattle.paper.specs.Verdicts.{fit_of}
use Rattle.paper.specs.Refusals.{Check, judge}
use Rattle.paper.specs.Calls.{has_prefix}
use Rattle.paper.specs.declared.page.Header.{Header}
use Rattle.paper.specs.declared.refusal.Refusal.{Refusal}
use Rattle.paper.proofs.Fit.{Fit, Rules, fit}
use Rattle.paper.proofs.Filing.{frame-rules}
use Rattle.paper.proofs.Holding.{judge-append}
use Rattle.search.specs.Probe.{class_by, class_number}
use Rattle.search.proofs.Classes.{has-prefix, lacks-prefix}
use Rattle.search.proofs.Asked.{prefix_fits, slots-fit, prefix-read}
use Rattle.verdict.specs.Fits.{fit_checks, fit_admit_of}
use Rattle.verdict.proofs.Fitness.{fitted, fitted-judge, unfit-judge}
use Rattle.edit.specs.Tested.{Tested}

-- ---- the prefix, by its length m as it was read, and by the class c as a number
module _ (p k : List ℕ) (m : ℕ) (e : m ≡ le 2 p 46) (c : ℕ) (f : c ≡ class_number (class_by p m k)) where
  by-header : c ≡ class_number (class_by p (header_of p).prefix_len k)
  by-header = rw (← prefix-read p m e) f

  pub prefix-held : c ≡ 1 → has_prefix (frame_of p) k ≡ true
  prefix-held = has-prefix p k (header_of p) refl c by-header

  pub prefix-not : (c ≡ 1 → ⊥) → has_prefix (frame_of p) k ≡ false
  prefix-not = lacks-prefix p k (header_of p) refl c by-header

-- ---- the tests
module _ (w : ℕ) (p : List ℕ) (n : ℕ) where
  pub tested : (h : Header) → fit_admit_of w p n ≡ Ok h → Tested w p n
  tested h e =
      let F = fitted w p n h e in
      record { size = F.size; width = F.width; key_length = F.key_length; verdict = F.verdict }

  module _ (T : Tested w p n) where
    pub tested-fit : Fit w (view_of w p)
    unfolding fit_of
    tested-fit = fit w (view_of w p) T.verdict

    pub tested-rules : Rules (frame_of p) (numbers_of p)
    tested-rules = frame-rules w p T.size tested-fit

    -- what the class asks for; m is the prefix's length as it was read
    pub class-asked : (m : ℕ) → m ≡ le 2 p 46 → (16384 ≤ length p) × (m ≤ 16256)
    class-asked m e = (omega (arith, T.size), rw (prefix-read p m e) (prefix_fits p (header_of p) refl tested-rules))

    -- and what find asks for
    pub find-asked : (16384 ≤ length p) × (8 * (header_of p).count ≤ 16256)
    find-asked = (omega (arith, T.size), slots-fit p (header_of p) refl tested-rules)

  -- a call with more tests after them
  module _ (rest : List Check) {A : Type 0} (a : A) (r : Refusal → A) where
    pub judge-refused : (q : Refusal) → fit_admit_of w p n ≡ Err q → judge (fit_checks w p n ++ rest) a r ≡ r q
    judge-refused q e = judge-append (fit_checks w p n) rest a r ∙ unfit-judge w p n q e (judge rest a r) r

    pub judge-fitted : (h : Header) → fit_admit_of w p n ≡ Ok h → judge (fit_checks w p n ++ rest) a r ≡ judge rest a r
    judge-fitted h e = judge-append (fit_checks w p n) rest a r ∙ fitted-judge w p n h e (judge rest a r) r
