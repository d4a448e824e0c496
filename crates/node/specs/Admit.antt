-- The tests that every read begins with, and those of a slot that is read: 1, 2, 3, 4 and 10, 14.
use Rattle.std.specs.Prelude.{ℕ, List, [], ◌∷◌, leb, ltb, Result, Ok, Err, ⊤}
use Rattle.paper.specs.Page.{slot_of}
use Rattle.paper.specs.Verdicts.{slot_payload, within}
use Rattle.paper.specs.Refusals.{Check, check, judge}
use Rattle.paper.specs.Calls.{page_length, width_known, rules_hold, entry_tests}
use Rattle.paper.specs.declared.refusal.Refusal.{Refusal}
use Rattle.paper.specs.declared.refusal.Refusal.TheVariants.{KeyLength, SlotNumber, Payload}
use Rattle.paper.specs.declared.page.Slot.{Slot}

-- 1, 2, 3, 4, of a key of n bytes
abbrev pub admit_checks : ℕ → List ℕ → ℕ → List Check
admit_checks w p n = page_length p ∷ width_known w ∷ check (leb n 65535) KeyLength ∷ rules_hold p ∷ []

unfoldable pub admit_of : ℕ → List ℕ → ℕ → Result ⊤ Refusal
admit_of w p n = judge (admit_checks w p n) (Ok tt) Err

-- 10, 14, of slot i where there are count, and payloads lie from end on
abbrev pub slot_checks : ℕ → List ℕ → ℕ → ℕ → ℕ → List Check
slot_checks w p count end i = check (ltb i count) SlotNumber ∷ check (within end (slot_payload w (slot_of p i))) Payload ∷ []

unfoldable pub slot_read_of : ℕ → List ℕ → ℕ → ℕ → ℕ → Result Slot Refusal
slot_read_of w p count end i = judge (slot_checks w p count end i) (Ok (slot_of p i)) Err

-- 1, 2, 4, 10, 14, of entry i
unfoldable pub opened_of : ℕ → List ℕ → ℕ → Result Slot Refusal
opened_of w p i = judge (entry_tests w p i) (Ok (slot_of p i)) Err
