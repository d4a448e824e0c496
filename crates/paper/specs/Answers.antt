-- "If the answer is an enum, a definition gives this paper's number and values for each of its cases": number 0 and the values that the call
-- answers, or a refusal's number and what it carries.
use Rattle.std.specs.Prelude.{ℕ, Bool, List, [], ◌∷◌, ℤ, pos, Result, Ok, Err, ⊤}
use Rattle.keys.specs.Choice.{pick}
use Rattle.paper.specs.Refusals.{number_of, carried_by}
use Rattle.paper.specs.declared.refusal.Refusal.{Refusal}
use Rattle.paper.specs.declared.answers.Space.{Space}
use Rattle.paper.specs.declared.answers.Child.{Child}
use Rattle.paper.specs.declared.answers.EntryRead.{EntryRead}
use Rattle.paper.specs.declared.answers.Forecast.{Forecast}
use Rattle.paper.specs.declared.answers.Found.{Found}
use Rattle.paper.specs.declared.answers.Found.TheVariants.{Equal, Smaller}

pub record Said : Type 0 where
  pub number : ℕ
  pub values : List ℤ

abbrev pub answered : List ℤ → Said
answered vs = record { number = 0; values = vs }

abbrev pub refused : Refusal → Said
refused r = record { number = number_of r; values = pos (carried_by r) ∷ [] }

-- a call answers its values, or is refused
abbrev pub says : {A : Type 0} → (A → List ℤ) → Result A Refusal → Said
says values (Ok a) = answered (values a)
says values (Err r) = refused r

-- ---- the values of each kind of answer
-- none
unfoldable pub nothing_values : ⊤ → List ℤ
nothing_values a = []

-- a number
unfoldable pub number_values : ℕ → List ℤ
number_values n = pos n ∷ []

-- a signed number
unfoldable pub sign_values : ℤ → List ℤ
sign_values s = s ∷ []

-- yes or no: 1 or 0
unfoldable pub yes_values : Bool → List ℤ
yes_values b = pos (pick b 1 0) ∷ []

-- the equal key's slot and 1, or the number of smaller keys and 0
unfoldable pub found_values : Found → List ℤ
found_values (Equal i) = pos i ∷ pos 1 ∷ []
found_values (Smaller i) = pos i ∷ pos 0 ∷ []

-- the child's slot, or -1, and its value
unfoldable pub child_values : Child → List ℤ
child_values c = c.slot ∷ pos c.value ∷ []

-- an entry's value; its key is bytes of the page
unfoldable pub entry_values : EntryRead → List ℤ
entry_values e = pos e.value ∷ []

-- common prefix length, and space
unfoldable pub forecast_values : Forecast → List ℤ
forecast_values f = pos f.prefix_len ∷ pos f.space ∷ []

-- the space numbers
unfoldable pub space_values : Space → List ℤ
space_values s = pos s.start ∷ pos s.end ∷ pos s.free ∷ pos s.used ∷ pos s.effective ∷ pos s.reclaimable ∷ pos s.compacted ∷ []

-- ---- the calls
-- begin, change key, run copy
abbrev pub edited_says : Result ⊤ Refusal → Said
edited_says = says nothing_values

-- insert: the slot number
abbrev pub filed_says : Result ℕ Refusal → Said
filed_says = says number_values

-- set value: the old value
abbrev pub replaced_says : Result ℕ Refusal → Said
replaced_says = says number_values

-- find
abbrev pub found_says : Result Found Refusal → Said
found_says = says found_values

-- lower and upper bound
abbrev pub bound_says : Result ℕ Refusal → Said
bound_says = says number_values

-- compare: -1, 0 or 1
abbrev pub compared_says : Result ℤ Refusal → Said
compared_says = says sign_values

-- child number, with that child's value
abbrev pub child_says : Result Child Refusal → Said
child_says = says child_values

-- entry
abbrev pub entry_says : Result EntryRead Refusal → Said
entry_says = says entry_values

-- copy of a key: the key's length
abbrev pub copied_says : Result ℕ Refusal → Said
copied_says = says number_values

-- trailing id
abbrev pub trailing_says : Result ℕ Refusal → Said
trailing_says = says number_values

-- space numbers
abbrev pub space_says : Result Space Refusal → Said
space_says = says space_values

-- need of an entry
abbrev pub needed_says : Result ℕ Refusal → Said
needed_says = says number_values

-- forecast
abbrev pub forecast_says : Result Forecast Refusal → Said
forecast_says = says forecast_values

-- layout verdict: 1 yes, 0 no
abbrev pub layout_says : Result Bool Refusal → Said
layout_says = says yes_values

-- fit verdict: 0, or the first rule broken
abbrev pub fit_says : Result ℕ Refusal → Said
fit_says = says number_values
