-- Each call tests in the order that document 01 lists: the numbers of its tests are the paper's list. (14 is given in the course of a search
-- and is not in these lists; of two pages or two keys each has its own test.) Assumes nothing.
use Rattle.std.proofs.Common.{◌≡◌, refl, ap, List, [], ◌∷◌, ◌++◌, map, ℕ, zero, suc, leb, length}
use Rattle.paper.specs.Page.{numbers_of}
use Rattle.paper.specs.Edits.{Begin}
use Rattle.paper.specs.Refusals.{Check, check, number_of}
use Rattle.paper.specs.Space.{free}
use Rattle.paper.specs.Listing.{Entry, listing, keys}
use Rattle.paper.specs.Calls.{begin_checks, insert_checks, set_checks, change_checks, run, entry_checks, above_last, need_of_all, run_checks, probe_checks, find_checks, compare_checks, child_checks, entry_tests, copy_checks, trailing_checks, space_checks, need_checks, forecast_checks, verdict_checks}
use Rattle.paper.specs.declared.refusal.Refusal.TheVariants.{Neighbours, NoRoom}

abbrev pub numbers : List Check → List ℕ
numbers cs = map (λ (c : Check). number_of c.refusal) cs

-- 8 and 9 for each of n entries, and the rest
abbrev pub alternate : ℕ → List ℕ → List ℕ
alternate zero rest = rest
alternate (suc n) rest = 8 ∷ 9 ∷ alternate n rest

-- "begin 1, 3, 6, 13"
pub begin_numbers : (p : List ℕ) (b : Begin) → numbers (begin_checks p b) ≡ 1 ∷ 3 ∷ 3 ∷ 6 ∷ 13 ∷ []
unfolding begin_checks number_of
begin_numbers p b = refl

-- "insert 1, 2, 3, 5, 7, 8, 9, 11, 13"
pub insert_numbers : (w : ℕ) (p k : List ℕ) (v : ℕ) → numbers (insert_checks w p k v) ≡ 1 ∷ 2 ∷ 3 ∷ 5 ∷ 7 ∷ 8 ∷ 9 ∷ 11 ∷ 13 ∷ []
unfolding insert_checks number_of
insert_numbers w p k v = refl

-- "set value 1, 2, 3, 5, 7, 8, 17, 18"
pub set-numbers : (w : ℕ) (p k : List ℕ) (e v : ℕ) → numbers (set_checks w p k e v) ≡ 1 ∷ 2 ∷ 3 ∷ 5 ∷ 7 ∷ 8 ∷ 17 ∷ 18 ∷ []
unfolding set_checks number_of
set-numbers w p k e v = refl

-- "change key 1, 2, 3, 5, 8, 9, 10, 12, 13"
pub change_numbers : (w : ℕ) (p : List ℕ) (i : ℕ) (k : List ℕ) → numbers (change_checks w p i k) ≡ 1 ∷ 2 ∷ 3 ∷ 5 ∷ 8 ∷ 9 ∷ 10 ∷ 12 ∷ 13 ∷ []
unfolding change_checks number_of
change_numbers w p i k = refl

-- "run copy 1, 2, 5 (destination before source), 10, then entry by entry 8, 9, then 12 .. then 13"
entries-numbers : (p : List ℕ) (es : List Entry) (rest : List Check) → numbers (entry_checks p es ++ rest) ≡ alternate (length es) (numbers rest)
unfolding entry_checks number_of
entries-numbers p [] rest = refl
entries-numbers p (e ∷ es) rest = ap (λ (l : List ℕ). 8 ∷ 9 ∷ l) (entries-numbers p es rest)

pub run-numbers : (w : ℕ) (p q : List ℕ) (a n : ℕ) → numbers (run_checks w p q a n) ≡ 1 ∷ 1 ∷ 2 ∷ 5 ∷ 5 ∷ 10 ∷ alternate (length (run w q a n)) (12 ∷ 13 ∷ [])
unfolding run_checks number_of
run-numbers w p q a n =
    ap (λ (l : List ℕ). 1 ∷ 1 ∷ 2 ∷ 5 ∷ 5 ∷ 10 ∷ l)
    (entries-numbers p (run w q a n)
    (check (above_last (keys (listing w p)) (run w q a n)) Neighbours ∷ check (leb (need_of_all w p (run w q a n)) (free (numbers_of p))) NoRoom ∷ []))

-- "lower and upper bound 1, 2, 3, 4", "find 1, 2, 3, 4, 8", "compare slot with probe 1, 2, 3, 4, 10"
pub bound-numbers : (w : ℕ) (p k : List ℕ) → numbers (probe_checks w p k) ≡ 1 ∷ 2 ∷ 3 ∷ 4 ∷ []
unfolding number_of
bound-numbers w p k = refl

pub find-numbers : (w : ℕ) (p k : List ℕ) → numbers (find_checks w p k) ≡ 1 ∷ 2 ∷ 3 ∷ 4 ∷ 8 ∷ []
unfolding number_of
find-numbers w p k = refl

pub compare-numbers : (w : ℕ) (p : List ℕ) (i : ℕ) (k : List ℕ) → numbers (compare_checks w p i k) ≡ 1 ∷ 2 ∷ 3 ∷ 4 ∷ 10 ∷ []
unfolding number_of
compare-numbers w p i k = refl

-- "entry 1, 2, 4, 10, 14", "copy of a key: also 15"
pub entry-numbers : (w : ℕ) (p : List ℕ) (i : ℕ) → numbers (entry_tests w p i) ≡ 1 ∷ 2 ∷ 4 ∷ 10 ∷ 14 ∷ []
unfolding number_of
entry-numbers w p i = refl

pub copy_numbers : (w : ℕ) (p : List ℕ) (i : ℕ) (out : List ℕ) → numbers (copy_checks w p i out) ≡ 1 ∷ 2 ∷ 4 ∷ 10 ∷ 14 ∷ 15 ∷ []
unfolding copy_checks number_of
copy_numbers w p i out = refl

-- "child number 1, 3, 5, 8, 9"
pub child-numbers : (p k : List ℕ) → numbers (child_checks p k) ≡ 1 ∷ 3 ∷ 5 ∷ 8 ∷ 9 ∷ []
unfolding number_of
child-numbers p k = refl

-- "trailing id 1, 2, 4, 10, 14, 16"
pub trailing_numbers : (w : ℕ) (p : List ℕ) (i : ℕ) → numbers (trailing_checks w p i) ≡ 1 ∷ 2 ∷ 4 ∷ 10 ∷ 14 ∷ 16 ∷ []
unfolding number_of
trailing_numbers w p i = refl

-- "space numbers 1, 4, and 5", "need of an entry 2, 3, 8", "forecast 3", "layout and fit verdict 1, 2"
pub space_numbers : (p : List ℕ) → numbers (space_checks p) ≡ 1 ∷ 4 ∷ 5 ∷ []
unfolding number_of
space_numbers p = refl

pub need-numbers : (w n : ℕ) (k : List ℕ) → numbers (need_checks w n k) ≡ 2 ∷ 3 ∷ 8 ∷ []
unfolding number_of
need-numbers w n k = refl

pub forecast_numbers : (l u : List ℕ) → numbers (forecast_checks l u) ≡ 3 ∷ 3 ∷ []
unfolding number_of
forecast_numbers l u = refl

pub verdict-numbers : (w : ℕ) (p : List ℕ) → numbers (verdict_checks w p) ≡ 1 ∷ 2 ∷ []
unfolding number_of
verdict-numbers w p = refl
