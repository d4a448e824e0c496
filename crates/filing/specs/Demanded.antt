-- Demand 3 of the calls themselves: what a caller gets who files records one by one, or as a batch.
use Rattle.std.specs.Prelude.{Ok, ◌≡◌, ℕ, true, length, Result, List, [], ◌∷◌, map}
use mathlib.Core.List.{Permᴰ}
use Rattle.paper.specs.Lists.{all}
use Rattle.paper.specs.Listing.{Entry, listing, file_all}
use Rattle.paper.specs.Calls.{insert_of, insert_page}
use Rattle.paper.specs.Demand.{is_accepted, Given, Demanded}
use Rattle.filing.specs.Batches.{records_of, holds_records, batch_of, batch_page}
use Rattle.paper.specs.declared.refusal.Refusal.{Refusal}

-- a call of insert: the record handed to it, what it answered, and the page that it left
pub record Step : Type 0 where
  pub entry : Entry
  pub answer : Result ℕ Refusal
  pub page : List ℕ

-- it was made on page p: this is what `insert` ensures
pub record Made (w : ℕ) (p : List ℕ) (s : Step) : Type 0 where
  pub answered : s.answer ≡ insert_of w p s.entry.key s.entry.value
  pub left : s.page ≡ insert_page w p s.entry.key s.entry.value

-- calls one after the other, each on the page that the one before it left; and the page after the last
unfoldable pub AllMade : ℕ → List ℕ → List Step → Type 0
AllMade w p [] = Unit
AllMade w p (s ∷ ss) = Made w p s × AllMade w s.page ss

unfoldable pub last_page : List ℕ → List Step → List ℕ
last_page p [] = p
last_page p (s ∷ ss) = last_page s.page ss

abbrev pub entries : List Step → List Entry
entries ss = map (λ (s : Step). s.entry) ss

-- "file them in any order, each by the insert that refreshes hints. Every insert is accepted": each call answered a slot, and the page
-- after the last is as demanded
abbrev pub DemandCalls : Type 0
DemandCalls =
    (w : ℕ) (p : List ℕ) (es : List Entry) (ss : List Step) → Given w p es → Permᴰ es (entries ss) → AllMade w p ss
    → (all (λ s. is_accepted s.answer) ss ≡ true) × Demanded w p es (entries ss) (last_page p ss) (file_all es (listing w p))

-- the same by one call, from a buffer b that holds them in any order
abbrev pub DemandBatch : Type 0
DemandBatch =
    (w : ℕ) (p b : List ℕ) (es : List Entry) → Given w p es → holds_records b ≡ true → Permᴰ es (records_of b)
    → (batch_of w p b ≡ Ok (length es)) × Demanded w p es (records_of b) (batch_page w p b) (file_all es (listing w p))
