-- "Calls and refusal numbers": the table, and how a call is judged by it.
use Rattle.std.specs.Prelude.{ℕ, Bool, List, [], ◌∷◌, Result, Ok, Err}
use Rattle.keys.specs.Choice.{pick}
use Rattle.paper.specs.declared.refusal.Refusal.{Refusal}
use Rattle.paper.specs.declared.refusal.Refusal.TheVariants.{PageLength, Width, KeyLength, HeaderRules, NotFit, FenceOrder, ValueRange, Prefix, OutsideFences, SlotNumber, Present, Neighbours, NoRoom, Payload, BufferLength, ShortKey, NotFound, OtherValue}

-- the number of a refusal
unfoldable pub number_of : Refusal → ℕ
number_of PageLength = 1
number_of Width = 2
number_of KeyLength = 3
number_of HeaderRules = 4
number_of (NotFit u) = 5
number_of FenceOrder = 6
number_of ValueRange = 7
number_of Prefix = 8
number_of OutsideFences = 9
number_of SlotNumber = 10
number_of Present = 11
number_of Neighbours = 12
number_of NoRoom = 13
number_of Payload = 14
number_of BufferLength = 15
number_of ShortKey = 16
number_of NotFound = 17
number_of (OtherValue v) = 18

-- "a refusal carries zero elsewhere, but 5 carries the U number and 18 the stored value"
unfoldable pub carried_by : Refusal → ℕ
carried_by PageLength = 0
carried_by Width = 0
carried_by KeyLength = 0
carried_by HeaderRules = 0
carried_by (NotFit u) = u
carried_by FenceOrder = 0
carried_by ValueRange = 0
carried_by Prefix = 0
carried_by OutsideFences = 0
carried_by SlotNumber = 0
carried_by Present = 0
carried_by Neighbours = 0
carried_by NoRoom = 0
carried_by Payload = 0
carried_by BufferLength = 0
carried_by ShortKey = 0
carried_by NotFound = 0
carried_by (OtherValue v) = v

-- a test that must hold, and the refusal if it does not
pub record Check : Type 0 where
  pub holds : Bool
  pub refusal : Refusal

abbrev pub check : Bool → Refusal → Check
check b r = record { holds = b; refusal = r }

-- "lowest number first": the first test that does not hold refuses; where all hold, the answer is given
unfoldable pub judge : {A : Type 0} → List Check → A → (Refusal → A) → A
judge [] answer refused = answer
judge (c ∷ cs) answer refused = pick c.holds (judge cs answer refused) (refused c.refusal)

-- the refusal of an answer that is one
unfoldable pub refusal_of : {A : Type 0} → Result A Refusal → Refusal
refusal_of (Ok a) = PageLength
refusal_of (Err r) = r
