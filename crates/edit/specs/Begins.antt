-- Begin, over the runs that two fences are cut into: a common prefix and two suffixes.
use Rattle.std.specs.Prelude.{ℕ, ◌+◌, ◌-◌, Bool, true, List, [], ◌∷◌, ◌++◌, eqb, length}
use Rattle.octets.specs.Bytes.{put}
use Rattle.keys.specs.Choice.{pick}
use Rattle.paper.specs.Lists.{less}
use Rattle.paper.specs.Page.{body_bytes}
use Rattle.paper.specs.Edits.{Field, field, fence_slot, outline, Begin}
use Rattle.paper.specs.declared.page.Slot.{Slot}
use Rattle.paper.specs.declared.page.Header.{Header}
use Rattle.edit.specs.declared.fences.Fences.{Fences}

-- what begin is given
abbrev pub given : ℕ → ℕ → List ℕ → ℕ → List ℕ → Bool → Begin
given height timestamp lower lower_value upper flag =
    record { height = height; timestamp = timestamp; lower = lower; lower_value = lower_value; upper = upper; flag = flag }

-- no upper fence, or the lower one below it
unfoldable pub ordered : List ℕ → List ℕ → Bool
ordered lower upper = pick (eqb (length upper) 0) true (less lower upper)

-- ---- the body: a prefix, a lower and an upper suffix downward; where each begins
abbrev pub top : List ℕ → ℕ
top prefix = 16256 - body_bytes 16 (length prefix)

abbrev pub middle : List ℕ → List ℕ → ℕ
middle prefix lower = top prefix - body_bytes 4 (length lower)

abbrev pub bottom : List ℕ → List ℕ → List ℕ → ℕ
bottom prefix lower upper = middle prefix lower - body_bytes 4 (length upper)

unfoldable pub runs_placed : List ℕ → List ℕ → List ℕ → List ℕ → List ℕ
runs_placed p prefix lower upper =
    put (put (put p (96 + top prefix) (outline 16 prefix)) (96 + middle prefix lower) (outline 4 lower)) (96 + bottom prefix lower upper) (outline 4 upper)

-- what the header says of them
unfoldable pub fences_of : List ℕ → List ℕ → List ℕ → Fences
fences_of prefix lower upper =
    record {
      lower = fence_slot lower (middle prefix lower);
      upper = fence_slot upper (bottom prefix lower upper);
      end = bottom prefix lower upper;
    }

-- ---- the header
unfoldable pub flag_number : Bool → ℕ
flag_number flag = pick flag 1 0

unfoldable pub begin_header : ℕ → ℕ → ℕ → Bool → ℕ → Fences → Header
begin_header height timestamp lower_value flag n f =
    record {
      height = height;
      count = 0;
      start = 0;
      end = f.end;
      timestamp = timestamp;
      lower = f.lower;
      lower_value = lower_value;
      upper = f.upper;
      effective = 16352 - f.end;
      initialized = 1;
      flag = flag_number flag;
      prefix_len = n;
    }

-- its fields, in the order of their places
unfoldable pub slot_fields : ℕ → Slot → List Field
slot_fields o s = field o 2 s.len ∷ field (o + 2) 2 s.offset ∷ field (o + 4) 4 s.head ∷ []

unfoldable pub front_fields : Header → List Field
front_fields h =
    field 0 2 h.height
    ∷ field 2 2 h.count
    ∷ field 4 2 h.start
    ∷ field 6 2 h.end
    ∷ field 8 8 h.timestamp
    ∷ []

unfoldable pub tail_fields : Header → List Field
tail_fields h =
    field 40 4 h.effective
    ∷ field 44 1 h.initialized
    ∷ field 45 1 h.flag
    ∷ field 46 2 h.prefix_len
    ∷ []

unfoldable pub header_fields : Header → List Field
header_fields h = front_fields h ++ slot_fields 16 h.lower ++ field 24 8 h.lower_value ∷ slot_fields 32 h.upper ++ tail_fields h
