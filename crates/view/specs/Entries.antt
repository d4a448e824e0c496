-- An entry shown: its value and its key's length, the key written out.
use Rattle.std.specs.Prelude.{ℕ, List, length, Result, Ok, Err}
use Rattle.octets.specs.Bytes.{le}
use Rattle.paper.specs.Page.{slot_of, value_at}
use Rattle.paper.specs.Refusals.{judge}
use Rattle.paper.specs.Calls.{key_at, copy_checks}
use Rattle.paper.specs.declared.refusal.Refusal.{Refusal}
use Rattle.view.specs.declared.entry.EntryShown.{EntryShown}

-- entry "1, 2, 4, 10, 14", and 15 where the buffer has no room for the key; what the buffer holds afterwards is the paper's `copy_buffer`
unfoldable pub shown_entry : ℕ → List ℕ → ℕ → List ℕ → Result EntryShown Refusal
shown_entry w p i out = judge (copy_checks w p i out) (Ok (record { value = le w p (value_at (slot_of p i)); key_len = length (key_at p (slot_of p i)) })) Err
