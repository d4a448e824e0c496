-- The first test that does not hold, each test being its rule by the header.
use Rattle.std.proofs.Common.{◌≡◌, ◌∙◌, Bool, not, ◌&&◌, List, [], ◌∷◌, rules, tests, None}
use Rattle.std.proofs.lemmas.Iterator.{YieldsList-from_slice}
use Rattle.std.proofs.lemmas.Iterator.Search.{position_from_yields_List}
use Rattle.verdict.proofs.Broken.{six_tests}
use Rattle.verdict.proofs.Fitting.{keys_tested}
use Rattle.verdict.proofs.subject.Judged.first_of_keys.Goals as goal

pub returns-in_err-i : goal.returns-in_err-i
returns-in_err-i c =
    let s = c.args.self.now in
    let kept : List Bool = (c.fences_faithful.result && c.args.t.faithful) ∷ c.fences_fit.result ∷ c.args.t.inside ∷ c.args.t.rising ∷ c.effective_right.result ∷ c.hints_fresh.result ∷ [] in
    let found = position_from_yields_List {all = kept} not _ _ _ c.position.ensures.ran (YieldsList-from_slice _ cc) (λ x b q k. search (rules, tests)) in
    let none : c.position.result ≡ None = c.in_err-i.was in
    c.from_residual.ensures ∙ rw none at (six_tests _ _ _ _ _ _ _ found)
    ∙ keys_tested s.width s.page.now s.header c.args.t _ _ _ _ c.fences_faithful.ensures c.fences_fit.ensures c.effective_right.ensures c.hints_fresh.ensures

pub returns : goal.returns
returns c =
    let s = c.args.self.now in
    let kept : List Bool = (c.fences_faithful.result && c.args.t.faithful) ∷ c.fences_fit.result ∷ c.args.t.inside ∷ c.args.t.rising ∷ c.effective_right.result ∷ c.hints_fresh.result ∷ [] in
    let found = position_from_yields_List {all = kept} not _ _ _ c.position.ensures.ran (YieldsList-from_slice _ cc) (λ x b q k. search (rules, tests)) in
    rw c.in_ok-i.was at (six_tests _ _ _ _ _ _ _ found)
    ∙ keys_tested s.width s.page.now s.header c.args.t _ _ _ _ c.fences_faithful.ensures c.fences_fit.ensures c.effective_right.ensures c.hints_fresh.ensures
