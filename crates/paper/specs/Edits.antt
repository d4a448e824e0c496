-- "Filing rules": what each edit leaves of the page. All bytes that are not put keep their old content.
use Rattle.std.specs.Prelude.{ℕ, ◌+◌, ◌-◌, Bool, false, List, [], ◌∷◌, ◌++◌, leb, ltb, length, take, drop}
use Rattle.octets.specs.Bytes.{le, part, bytes, put}
use Rattle.keys.specs.Choice.{pick}
use Rattle.keys.specs.Keys.{head_of, common}
use Rattle.paper.specs.Page.{place, slot_of, body_bytes, value_at, frame_of, Numbers, numbers_of}
use Rattle.paper.specs.Space.{payload_bytes, need, begin_bytes}
use Rattle.paper.specs.Hints.{refresh}
use Rattle.paper.specs.Listing.{Entry}
use Rattle.paper.specs.declared.page.Slot.{Slot}

-- ---- fields: numbers of so many bytes at a place
pub record Field : Type 0 where
  pub place : ℕ
  pub width : ℕ
  pub value : ℕ

abbrev pub field : ℕ → ℕ → ℕ → Field
field o n v = record { place = o; width = n; value = v }

unfoldable pub put_all : List ℕ → List Field → List ℕ
put_all p [] = p
put_all p (f ∷ fs) = put_all (put p f.place (bytes f.width f.value)) fs

-- the eight bytes of a slot
unfoldable pub slot_bytes : Slot → List ℕ
slot_bytes s = bytes 2 s.len ++ bytes 2 s.offset ++ bytes 4 s.head

-- count, start, end and effective written at their places
unfoldable pub number_fields : Numbers → List Field
number_fields n = field 2 2 n.count ∷ field 4 2 n.start ∷ field 6 2 n.end ∷ field 40 4 n.effective ∷ []

-- ---- begin
-- "a short fence has offset 0"; a long one stands at o
unfoldable pub fence_slot : List ℕ → ℕ → Slot
fence_slot s o = record { len = length s; offset = pick (leb (length s) 4) 0 o; head = head_of s }

-- the part of n bytes that lives in the body
abbrev pub outline : ℕ → List ℕ → List ℕ
outline m s = take (body_bytes m (length s)) s

-- what begin is given
pub record Begin : Type 0 where
  pub height : ℕ
  pub timestamp : ℕ
  pub lower : List ℕ
  pub lower_value : ℕ
  pub upper : List ℕ
  pub flag : Bool

-- "prefix = the fences' longest common prefix", and the two suffixes
abbrev pub begin_prefix : Begin → List ℕ
begin_prefix b = take (common b.lower b.upper) b.lower

abbrev pub begin_lower : Begin → List ℕ
begin_lower b = drop (common b.lower b.upper) b.lower

abbrev pub begin_upper : Begin → List ℕ
begin_upper b = drop (common b.lower b.upper) b.upper

-- "then a long prefix, lower suffix and upper suffix placed downward in that order": where each begins
abbrev pub prefix_start : Begin → ℕ
prefix_start b = 16256 - body_bytes 16 (length (begin_prefix b))

abbrev pub lower_start : Begin → ℕ
lower_start b = prefix_start b - body_bytes 4 (length (begin_lower b))

abbrev pub upper_start : Begin → ℕ
upper_start b = lower_start b - body_bytes 4 (length (begin_upper b))

unfoldable pub fences_placed : List ℕ → Begin → List ℕ
fences_placed p b =
    put (put (put p (96 + prefix_start b) (outline 16 (begin_prefix b))) (96 + lower_start b) (outline 4 (begin_lower b))) (96 + upper_start b) (outline 4 (begin_upper b))

-- "initialized 1, count and start 0 .. the given values stored .. effective = 96 + those body bytes"
unfoldable pub begin_fields : Begin → List Field
begin_fields b =
    let l = fence_slot (begin_lower b) (lower_start b) in
    let u = fence_slot (begin_upper b) (upper_start b) in
    field 0 2 b.height
    ∷ field 2 2 0
    ∷ field 4 2 0
    ∷ field 6 2 (upper_start b)
    ∷ field 8 8 b.timestamp
    ∷ field 16 2 l.len
    ∷ field 18 2 l.offset
    ∷ field 20 4 l.head
    ∷ field 24 8 b.lower_value
    ∷ field 32 2 u.len
    ∷ field 34 2 u.offset
    ∷ field 36 4 u.head
    ∷ field 40 4 (96 + begin_bytes b.lower b.upper)
    ∷ field 44 1 1
    ∷ field 45 1 (pick b.flag 1 0)
    ∷ field 46 2 (length (begin_prefix b))
    ∷ []

-- the bytes of a prefix that is inline
abbrev pub inlined : List ℕ → List ℕ
inlined s = pick (leb (length s) 16) s []

unfoldable pub begun : List ℕ → Begin → List ℕ
begun p b = put (put_all (fences_placed p b) (begin_fields b)) 48 (inlined (begin_prefix b))

-- ---- insert: the suffix s with the value v as slot i
-- a slot for s whose payload stands at o
unfoldable pub slot_for : List ℕ → ℕ → Slot
slot_for s o = record { len = length s; offset = o; head = head_of s }

-- what is written of it into the body
abbrev pub payload_of : ℕ → List ℕ → ℕ → List ℕ
payload_of w s v = outline 4 s ++ bytes w v

abbrev pub new_end : ℕ → List ℕ → List ℕ → ℕ
new_end w p s = (numbers_of p).end - payload_bytes w (length s)

-- "payload is written only at the part of the body from the new end offset"
unfoldable pub loaded : ℕ → List ℕ → List ℕ → ℕ → List ℕ
loaded w p s v = put p (96 + new_end w p s) (payload_of w s v)

-- "later slots move up one": slot i of n is now s
unfoldable pub slot_in : List ℕ → ℕ → ℕ → Slot → List ℕ
slot_in p n i s = put (put p (place i + 8) (part (place n - place i) p (place i))) (place i) (slot_bytes s)

unfoldable pub slotted : ℕ → List ℕ → ℕ → List ℕ → ℕ → List ℕ
slotted w p i s v = slot_in (loaded w p s v) (numbers_of p).count i (slot_for s (new_end w p s))

-- "count, start, end and effective follow": an entry more, whose suffix has k bytes
unfoldable pub more : ℕ → Numbers → ℕ → Numbers
more w n k = record { count = n.count + 1; start = n.start + 8; end = n.end - payload_bytes w k; effective = n.effective + need w k }

unfoldable pub numbered : ℕ → List ℕ → ℕ → List ℕ → ℕ → List ℕ
numbered w p i s v = put_all (slotted w p i s v) (number_fields (more w (numbers_of p) (length s)))

-- "insert, change key and run copy then refresh all hints in use"
unfoldable pub inserted : ℕ → List ℕ → ℕ → List ℕ → ℕ → List ℕ
inserted w p i s v = refresh (numbered w p i s v)

-- ---- set value of slot i
unfoldable pub value_set : ℕ → List ℕ → ℕ → ℕ → List ℕ
value_set w p i v = put p (value_at (slot_of p i)) (bytes w v)

-- ---- change key of slot i to the suffix s
-- "longer than the old one and above 4 bytes"
unfoldable pub outgrows : Slot → List ℕ → Bool
outgrows o s = pick (leb (length s) 4) false (ltb o.len (length s))

-- "new payload, old bytes lost. Otherwise in place": where the payload stands; n are the page's numbers, o the old slot
unfoldable pub key_place : ℕ → Numbers → Slot → List ℕ → ℕ
key_place w n o s = pick (outgrows o s) (n.end - (length s + w)) o.offset

-- "effective falling by the bytes dropped", and rising by those of a longer suffix
unfoldable pub rekeyed : ℕ → Numbers → Slot → List ℕ → Numbers
rekeyed w n o s =
    record {
      count = n.count;
      start = n.start;
      end = pick (outgrows o s) (n.end - (length s + w)) n.end;
      effective = n.effective + body_bytes 4 (length s) - body_bytes 4 o.len;
    }

-- payload and slot written
unfoldable pub key_put : ℕ → List ℕ → ℕ → List ℕ → List ℕ
key_put w p i s =
    let o = key_place w (numbers_of p) (slot_of p i) s in
    put (put p (96 + o) (payload_of w s (le w p (value_at (slot_of p i))))) (place i) (slot_bytes (slot_for s o))

unfoldable pub key_changed : ℕ → List ℕ → ℕ → List ℕ → List ℕ
key_changed w p i s = refresh (put_all (key_put w p i s) (number_fields (rekeyed w (numbers_of p) (slot_of p i) s)))

-- ---- run copy: "source entries a..a+n appended in order, payloads placed downward"; es are these entries, whose keys are cut anew under
-- the page's prefix
unfoldable pub appended : ℕ → List ℕ → List Entry → List ℕ
appended w p [] = p
appended w p (e ∷ es) = appended w (numbered w p (numbers_of p).count (drop (frame_of p).prefix_len e.key) e.value) es

-- "n = 0 .. changes nothing"
unfoldable pub run_copied : ℕ → List ℕ → List Entry → List ℕ
run_copied w p [] = p
run_copied w p (e ∷ es) = refresh (appended w p (e ∷ es))
