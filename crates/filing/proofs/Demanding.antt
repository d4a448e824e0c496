-- Demand 3 of the calls: a run of calls leaves the page after all records, a batch answers as the fold does, and both are demand 3 then. Assumes nothing.
use Rattle.std.proofs.Common.{◌≡◌, refl, ◌∙◌, true, false, List, [], ◌∷◌, ℕ, ◌+◌, arith, eq-eqb, length, Result, Ok, Err}
use mathlib.Core.List.{Permᴰ}
use Rattle.paper.specs.Lists.{all}
use Rattle.paper.specs.Listing.{Entry}
use Rattle.paper.specs.Refusals.{judge}
use Rattle.paper.specs.Calls.{insert_of, insert_page}
use Rattle.paper.specs.Demand.{page_after, is_accepted, all_accepted, Given}
use Rattle.paper.proofs.Lists.{both_parts}
use Rattle.paper.proofs.Judging.{passed-fit}
use Rattle.paper.proofs.Perms.{length-perm}
use Rattle.paper.proofs.Demand.{demand3}
use Rattle.filing.specs.Batches.{records_of, holds_records, go_on, fold_from, fold_of, batch_of, batch_page}
use Rattle.filing.specs.Demanded.{Step, AllMade, last_page, entries, DemandCalls, DemandBatch}
use Rattle.filing.specs.declared.batch.NotFiled.{NotFiled}
use Rattle.paper.specs.declared.refusal.Refusal.{Refusal}

-- ---- a run of calls
run-page : (w : ℕ) (p : List ℕ) (ss : List Step) → AllMade w p ss → last_page p ss ≡ page_after w p (entries ss)
unfolding AllMade last_page page_after
run-page w p [] M = refl
run-page w p (s ∷ ss) M = run-page w s.page ss M.1 ∙ rw M.0.left

run-accepted : (w : ℕ) (p : List ℕ) (ss : List Step) → AllMade w p ss → all (λ s. is_accepted s.answer) ss ≡ all_accepted w p (entries ss)
unfolding AllMade all all_accepted
run-accepted w p [] M = refl
run-accepted w p (s ∷ ss) M = rw (run-accepted w s.page ss M.1, M.0.answered, M.0.left)

pub demand_calls : DemandCalls
demand_calls w p es ss G d M =
    let D = demand3 w p es (entries ss) G d in
    (run-accepted w p ss M ∙ D.accepted, rw (run-page w p ss M) D)

-- ---- a batch
gone_on : (i : ℕ) (f : Result ℕ Refusal) (rest : Result ℕ NotFiled) → is_accepted f ≡ true → go_on i f rest ≡ rest
unfolding go_on is_accepted
gone_on i (Ok s) rest e = refl
gone_on i (Err r) rest e = absurd (no e)
  where
    no : false ≡ true → ⊥
    no d = let z : ◌≡◌ {A = ℕ} 0 1 = cc in omega arith

fold-accepted : (i w : ℕ) (p : List ℕ) (es : List Entry) → all_accepted w p es ≡ true → fold_from i w p es ≡ Ok (i + length es)
unfolding fold_from all_accepted
fold-accepted i w p [] e = let z : i ≡ i + 0 = omega arith in rw (← z)
fold-accepted i w p (x ∷ es) e =
    let q : List ℕ = insert_page w p x.key x.value in
    let f : (Result ℕ Refusal) = insert_of w p x.key x.value in
    let a = both_parts (is_accepted f) (all_accepted w q es) e in
    let n : i + 1 + length es ≡ i + length (x ∷ es) = omega arith in
    gone_on i f (fold_from (i + 1) w q es) a.0 ∙ fold-accepted (i + 1) w q es a.1 ∙ rw n

fold-given : (w : ℕ) (p : List ℕ) (gs fs : List Entry) → Given w p gs → fold_of w p fs ≡ fold_from 0 w p fs
unfolding fold_of fold_from judge
fold-given w p gs [] G = let P = passed-fit w p G.fit in let x1 = eq-eqb (length p) 16384 P.size in rw (x1, P.width, P.fit)
fold-given w p gs (x ∷ fs) G = refl

batch_answered : (w : ℕ) (p b : List ℕ) (es : List Entry) → Given w p es → holds_records b ≡ true → Permᴰ es (records_of b) → all_accepted w p (records_of b) ≡ true
    → batch_of w p b ≡ Ok (length es)
unfolding batch_of
batch_answered w p b es G h d e =
    let n : 0 + length (records_of b) ≡ length es = omega (arith, length-perm d) in
    rw (h, fold-given w p es (records_of b) G, fold-accepted 0 w p (records_of b) e, n)

batch_left : (w : ℕ) (p b : List ℕ) (n : ℕ) → batch_of w p b ≡ Ok n → batch_page w p b ≡ page_after w p (records_of b)
unfolding batch_page
batch_left w p b n e = rw e

pub demand_batch : DemandBatch
demand_batch w p b es G h d =
    let D = demand3 w p es (records_of b) G d in
    let a = batch_answered w p b es G h d D.accepted in
    (a, rw (batch_left w p b (length es) a) D)
