-- The listing: every entry's key and value, in slot order; and records filed in byte order.
use Rattle.std.specs.Prelude.{ℕ, List, [], ◌∷◌, map}
use Rattle.keys.specs.Choice.{pick}
use Rattle.paper.specs.Lists.{less}
use Rattle.paper.specs.Page.{Row, Frame, view_of, key_of}

-- a record
pub record Entry : Type 0 where
  pub key : List ℕ
  pub value : ℕ

abbrev pub entry_of : Frame → Row → Entry
entry_of f r = record { key = key_of f r; value = r.value }

unfoldable pub listing : ℕ → List ℕ → List Entry
listing w p = let N = view_of w p in map (entry_of N.frame) N.rows

abbrev pub keys : List Entry → List (List ℕ)
keys l = map (λ (e : Entry). e.key) l

-- a record put where its key belongs in byte order
unfoldable pub file : Entry → List Entry → List Entry
file e [] = e ∷ []
file e (y ∷ l) = pick (less y.key e.key) (y ∷ file e l) (e ∷ y ∷ l)

-- records put in one after the other
unfoldable pub file_all : List Entry → List Entry → List Entry
file_all [] l = l
file_all (e ∷ es) l = file_all es (file e l)
