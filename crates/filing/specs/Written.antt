-- A batch as a caller writes it; `records_of` reads it back.
use Rattle.std.specs.Prelude.{◌≡◌, Bool, true, List, [], ◌∷◌, ◌++◌, ℕ, ◌^◌, ltb, length}
use Rattle.octets.specs.Bytes.{bytes}
use Rattle.keys.specs.Choice.{both}
use Rattle.paper.specs.Lists.{all}
use Rattle.paper.specs.Listing.{Entry}
use Rattle.filing.specs.Batches.{records_of, holds_records}

-- "each u32 key length, key, u64 value"
unfoldable pub record_bytes : Entry → List ℕ
record_bytes e = bytes 4 (length e.key) ++ (e.key ++ bytes 8 e.value)

unfoldable pub buffer_of : List Entry → List ℕ
buffer_of [] = []
buffer_of (e ∷ es) = record_bytes e ++ buffer_of es

-- their key lengths and values have as many bytes
abbrev pub writable : Entry → Bool
writable e = both (ltb (length e.key) (256 ^ 4)) (ltb e.value (256 ^ 8))

-- whatever records are written, they are whole and they are read, in their order
abbrev pub ReadBack : Type 0
ReadBack = (es : List Entry) → all writable es ≡ true → (holds_records (buffer_of es) ≡ true) × (records_of (buffer_of es) ≡ es)
