-- The fold over the records of a buffer: a turn, a record refused, the end; and the ways out of the call. Assumes nothing.
use Rattle.std.proofs.Common.{◌≡◌, refl, ap, ◌∙◌, Bool, true, false, List, [], ◌∷◌, append-nil, ℕ, ◌+◌, ◌≤◌, arith, take_all, length, take, drop_of_length-le, Result, Ok, Err, is_ok, not}
use Rattle.octets.specs.Bytes.{put}
use Rattle.octets.proofs.Put.{put_eq}
use Rattle.keys.specs.Choice.{pick}
use Rattle.paper.specs.Listing.{Entry}
use Rattle.paper.specs.Refusals.{judge}
use Rattle.paper.specs.Calls.{insert_of, insert_page}
use Rattle.paper.specs.Demand.{page_after}
use Rattle.paper.specs.declared.page.Header.{Header}
use Rattle.paper.specs.declared.refusal.Refusal.{Refusal}
use Rattle.verdict.specs.Fits.{fit_admit_of}
use Rattle.verdict.proofs.Fitness.{fitted, fitted-judge, unfit-judge}
use Rattle.edit.proofs.Inserted.{insert-refused}
use Rattle.filing.specs.Batches.{records_of, holds_records, go_on, fold_from, fold_of, batch_of, batch_page, first_length}
use Rattle.filing.specs.Standing.{Standing}
use Rattle.filing.specs.declared.batch.NotFiled.{NotFiled}
use Rattle.filing.specs.declared.batch.NotFiled.TheVariants.{Refused, Cut}

-- ---- a turn: the records that are left
module _ (w : ℕ) (p : List ℕ) (left : List Entry) where
  pub fold_done : left ≡ [] → (i : ℕ) → fold_from i w p left ≡ Ok i
  unfolding fold_from
  fold_done e i = rw e

  pub page-done : left ≡ [] → page_after w p left ≡ p
  unfolding page_after
  page-done e = rw e

  -- x is the first of them, the i-th of all, and f is what its insert answered
  module _ (x : Entry) (next : List Entry) (h : left ≡ x ∷ next) where
    pub fold-refused : (i : ℕ) (f : Result ℕ Refusal) → f ≡ insert_of w p x.key x.value → (r : Refusal) → f ≡ Err r → fold_from i w p left ≡ Err (Refused i r)
    unfolding fold_from go_on
    fold-refused i f a r e = rw (h, ← a, e)

    -- q is the page that the insert left
    module _ (q : List ℕ) (d : q ≡ insert_page w p x.key x.value) where
      pub page-on : page_after w p left ≡ page_after w q next
      unfolding page_after
      page-on = rw (h, d)

      pub fold_on : (i : ℕ) (f : Result ℕ Refusal) → f ≡ insert_of w p x.key x.value → (s : ℕ) → f ≡ Ok s → fold_from i w p left ≡ fold_from (i + 1) w q next
      unfolding fold_from go_on
      fold_on i f a s m = rw (h, ← a, m, ← d)

-- a refusal is not filed
pub not_filed : (f : NotFiled) {A : Type 0} → is_ok {T = ℕ} (Err f) ≡ true → A
not_filed f e = absurd (no e)
  where
    no : false ≡ true → ⊥
    no d = let z : ◌≡◌ {A = ℕ} 0 1 = ap (λ (t : Bool). pick t 1 0) d in omega arith

-- ---- the page put back: p as it was, q as the inserts left it, r what they answered and t whether it says filed
put_whole : (q p : List ℕ) → length q ≡ length p → put q 0 p ≡ p
put_whole q p e = put_eq q 0 p (omega arith) ∙ rw (drop_of_length-le q {i = 0 + length p} (omega arith)) (append-nil p)

module _ (r : Result ℕ NotFiled) (t : Bool) (c : is_ok r ≡ not t) (p q m : List ℕ) where
  pub left-filed : t ≡ false → (is_ok r ≡ true → q ≡ m) → q ≡ pick (is_ok r) m p
  left-filed e k = let f : is_ok r ≡ true = c ∙ ap not e in k f ∙ rw f

  -- x is what was saved, over z
  pub left-restored : t ≡ true → length q ≡ length p → (z x : List ℕ) → length z ≡ length p → (k : ℕ) → length p ≤ k → x ≡ put z 0 (take k p) → (y : List ℕ) → y ≡ put q 0 x
      → y ≡ pick (is_ok r) m p
  left-restored e l z x a k b d y n =
      let s = d ∙ ap (put z 0) (take_all k p b) ∙ put_whole z p a in
      let f : is_ok r ≡ false = c ∙ ap not e in
      n ∙ rw (s, put_whole q p l, f)

-- ---- the page's first tests, that of the first key's length among them
module _ (w : ℕ) (p : List ℕ) where
  refused-first : (es : List Entry) (q : Refusal) → fit_admit_of w p (first_length es) ≡ Err q → fold_of w p es ≡ Err (Refused 0 q)
  unfolding fold_of fold_from go_on first_length judge
  refused-first [] q e = unfit-judge w p 0 q e (Ok 0) (λ r. Err (Refused 0 r))
  refused-first (x ∷ es) q e = rw (← (insert-refused w p x.key x.value q e).0)

  fitted-first : (es : List Entry) (h : Header) → fit_admit_of w p (first_length es) ≡ Ok h → fold_of w p es ≡ fold_from 0 w p es
  unfolding fold_of fold_from first_length judge
  fitted-first [] h e = fitted-judge w p 0 h e (Ok 0) (λ r. Err (Refused 0 r))
  fitted-first (x ∷ es) h e = refl

  pub standing : (n : ℕ) (h : Header) → fit_admit_of w p n ≡ Ok h → Standing w p
  standing n h e = let F = fitted w p n h e in record { size = F.size; width = F.width; verdict = F.verdict }

  -- ---- the call; t says whether the buffer holds whole records, n is the first key's length
  module _ (b : List ℕ) (t : Bool) (c : t ≡ holds_records b) where
    pub batch-cut : t ≡ false → (Err Cut ≡ batch_of w p b) × (p ≡ batch_page w p b)
    unfolding batch_of batch_page
    batch-cut e = (rw (← c, e), rw (← c, e))

    -- m is the buffer as its records are taken from it
    module _ (whole : t ≡ true) (m : List ℕ) (M : m ≡ b) (n : ℕ) (l : n ≡ first_length (records_of m)) where
      pub batch-refused : (q : Refusal) → fit_admit_of w p n ≡ Err q → (Err (Refused 0 q) ≡ batch_of w p b) × (p ≡ batch_page w p b)
      unfolding batch_of batch_page
      batch-refused q e = let f = refused-first (records_of b) q (rw (l, M) at e) in (rw (← c, whole, f), rw (← c, whole, f))

      pub batch-fitted : (h : Header) → fit_admit_of w p n ≡ Ok h → (r : Result ℕ NotFiled) → r ≡ fold_from 0 w p (records_of m)
          → (q : List ℕ) → q ≡ pick (is_ok r) (page_after w p (records_of m)) p → (r ≡ batch_of w p b) × (q ≡ batch_page w p b)
      unfolding batch_of batch_page
      batch-fitted h e r d q k =
          let f = fitted-first (records_of b) h (rw (l, M) at e) in
          (d ∙ rw (M, ← c, whole, f), k ∙ rw (d, M, ← c, whole, f))

pub ruleset by_turn = (fold_done, page-done, fold-refused, fold_on, page-on)
