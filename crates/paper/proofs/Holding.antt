-- A call whose tests all hold: the answer is given, and an answer that is no refusal says that they held. Assumes nothing.
use Rattle.std.proofs.Common.{◌≡◌, refl, sym, ap, ◌∙◌, Bool, true, false, List, [], ◌∷◌, ◌++◌, Result, Ok, Err, IsErrAnd}
use Rattle.std.specs.Prelude.{⊤}
use Rattle.keys.specs.Choice.{pick, both}
use Rattle.paper.specs.Lists.{all}
use Rattle.paper.specs.Refusals.{Check, judge}
use Rattle.paper.specs.declared.refusal.Refusal.{Refusal}
use Rattle.paper.proofs.Lists.{both_parts}
use Rattle.std.proofs.lemmas.Result.{err_from_is_err_and}

-- all tests hold
abbrev pub all_hold : List Check → Bool
all_hold cs = all (λ (c : Check). c.holds) cs

abbrev pub Hold : List Check → Type 0
Hold cs = all_hold cs ≡ true

pub judge_hold : {A : Type 0} (cs : List Check) (a : A) (r : Refusal → A) → Hold cs → judge cs a r ≡ a
unfolding judge all
judge_hold [] a r h = refl
judge_hold (c ∷ cs) a r h = let b = both_parts c.holds (all (λ (c : Check). c.holds) cs) h in rw b.0 (judge_hold cs a r b.1)

-- b is an answer that no refusal gives
pub hold_judge : {A : Type 0} (cs : List Check) (a b : A) (r : Refusal → A) → ((f : Refusal) → r f ≡ b → ⊥) → judge cs a r ≡ b → Hold cs
unfolding judge all
hold_judge [] a b r k e = refl
hold_judge (c ∷ cs) a b r k e = go c.holds e (hold_judge cs a b r k)
  where
    go : (t : Bool) → pick t (judge cs a r) (r c.refusal) ≡ b → (judge cs a r ≡ b → Hold cs) → both t (all (λ (c : Check). c.holds) cs) ≡ true
    go true e next = next e
    go false e next = absurd (k c.refusal e)

-- a refusal is no answer
pub err_ok : {A : Type 0} (a : A) (q : Refusal) → ◌≡◌ {A = Result A Refusal} (Err q) (Ok a) → ⊥
err_ok a q e = cc

-- and two refusals that are the same answer are the same refusal
pub err_err : {A : Type 0} (x q : Refusal) → ◌≡◌ {A = Result A Refusal} (Err x) (Err q) → x ≡ q
err_err x q e = cc

-- a call that answers had all its tests hold
pub answer_holds : {A : Type 0} (cs : List Check) (a b : A) → judge cs (Ok a) Err ≡ Ok b → Hold cs
answer_holds cs a b e = hold_judge cs (Ok a) (Ok b) Err (λ q k. err_ok b q k) e

-- an edit that is done had all its tests hold
pub done_holds : (cs : List Check) → ◌≡◌ {A = Result ⊤ Refusal} (judge cs (Ok tt) Err) (Ok tt) → Hold cs
done_holds cs e = answer_holds cs tt tt e

-- a refusal passes on: a call with the same tests is refused alike
pub refused-judge : {A B : Type 0} (cs : List Check) (b : B) (q : Refusal) → judge cs (Ok b) Err ≡ Err q → (a : A) (r : Refusal → A) → judge cs a r ≡ r q
unfolding judge
refused-judge {A} [] b q e a r = absurd (err_ok b q (sym e))
refused-judge {A} {B} (c ∷ cs) b q e a r = go c.holds e (refused-judge cs b q)
  where
    go : (t : Bool) → pick t (judge cs (Ok b) Err) (Err c.refusal) ≡ Err q → (judge cs (Ok b) Err ≡ Err q → (a : A) (r : Refusal → A) → judge cs a r ≡ r q)
        → pick t (judge cs a r) (r c.refusal) ≡ r q
    go true e next = next e a r
    go false e next = ap r (err_err {A = B} c.refusal q e)

-- tests one after the other
pub judge-append : {A : Type 0} (cs ds : List Check) (a : A) (r : Refusal → A) → judge (cs ++ ds) a r ≡ judge cs (judge ds a r) r
unfolding judge
judge-append [] ds a r = refl
judge-append (c ∷ cs) ds a r = rw (judge-append cs ds a r)

-- ---- what `?` hands on
-- a call that hands on the refusal e answers it
pub handed_on : {A : Type 0} (r : Result A Refusal) (e : Refusal) → IsErrAnd r (λ x. x ≡ e) → r ≡ Err e
handed_on r e h = let p = err_from_is_err_and r h in p.1 ∙ ap Err p.2
