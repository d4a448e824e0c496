-- A batch: the records that a buffer holds, and the fold of single inserts over them.
use Rattle.std.specs.Prelude.{ℕ, zero, suc, ◌+◌, Bool, List, [], ◌∷◌, eqb, ltb, length, Result, Ok, Err, is_ok}
use Rattle.octets.specs.Bytes.{le, part}
use Rattle.keys.specs.Choice.{pick}
use Rattle.paper.specs.Listing.{Entry}
use Rattle.paper.specs.Refusals.{judge}
use Rattle.paper.specs.Calls.{page_length, width_known, is_fit, insert_of, insert_page}
use Rattle.paper.specs.Demand.{page_after}
use Rattle.filing.specs.declared.batch.NotFiled.{NotFiled}
use Rattle.filing.specs.declared.batch.NotFiled.TheVariants.{Refused, Cut}
use Rattle.paper.specs.declared.refusal.Refusal.{Refusal}

-- ---- "records, each u32 key length, key, u64 value": the record at place o of the buffer b, and where it ends
abbrev pub record_at : List ℕ → ℕ → Entry
record_at b o = record { key = part (le 4 b o) b (o + 4); value = le 8 b (o + 4 + le 4 b o) }

abbrev pub record_end : List ℕ → ℕ → ℕ
record_end b o = o + 12 + le 4 b o

-- the records from o on, at most n of them; and where the last of them ends
unfoldable pub records_from : ℕ → List ℕ → ℕ → List Entry
records_from zero b o = []
records_from (suc n) b o = pick (ltb o (length b)) (record_at b o ∷ records_from n b (record_end b o)) []

unfoldable pub end_from : ℕ → List ℕ → ℕ → ℕ
end_from zero b o = o
end_from (suc n) b o = pick (ltb o (length b)) (end_from n b (record_end b o)) o

-- all records of the buffer: it has no more of them than bytes
unfoldable pub records_of : List ℕ → List Entry
records_of b = records_from (length b) b 0

-- whether it holds whole records only: the last one ends where the buffer does
unfoldable pub holds_records : List ℕ → Bool
holds_records b = eqb (end_from (length b) b 0) (length b)

-- ---- the fold of single inserts, from place i on: the number of records, or the first insert refused and its place
unfoldable pub go_on : ℕ → Result ℕ Refusal → Result ℕ NotFiled → Result ℕ NotFiled
go_on i (Ok s) rest = rest
go_on i (Err r) rest = Err (Refused i r)

unfoldable pub fold_from : ℕ → ℕ → List ℕ → List Entry → Result ℕ NotFiled
fold_from i w p [] = Ok i
fold_from i w p (e ∷ es) = go_on i (insert_of w p e.key e.value) (fold_from (i + 1) w (insert_page w p e.key e.value) es)

-- "an empty batch still gives 1, 2, 5"
unfoldable pub fold_of : ℕ → List ℕ → List Entry → Result ℕ NotFiled
fold_of w p [] = judge (page_length p ∷ width_known w ∷ is_fit w p ∷ []) (Ok 0) (λ r. Err (Refused 0 r))
fold_of w p (e ∷ es) = fold_from 0 w p (e ∷ es)

-- ---- the call: a buffer that ends inside a record is cut, whatever the page
unfoldable pub batch_of : ℕ → List ℕ → List ℕ → Result ℕ NotFiled
batch_of w p b = pick (holds_records b) (fold_of w p (records_of b)) (Err Cut)

-- the page that the inserts leave one after the other; "and then changes no byte, as every refused call"
unfoldable pub batch_page : ℕ → List ℕ → List ℕ → List ℕ
batch_page w p b = pick (is_ok (batch_of w p b)) (page_after w p (records_of b)) p

-- the length of the first record's key
unfoldable pub first_length : List Entry → ℕ
first_length [] = 0
first_length (e ∷ es) = length e.key
