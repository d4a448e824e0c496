-- "The page": what its 16,384 bytes say. A page is the list of them; header 96, body 16,256, footer 32.
use Rattle.std.specs.Prelude.{ℕ, ◌+◌, ◌*◌, ◌-◌, List, ◌++◌, leb, take}
use Rattle.octets.specs.Bytes.{le, part, big_bytes}
use Rattle.keys.specs.Choice.{pick}
use Rattle.paper.specs.Lists.{tab}
use Rattle.paper.specs.declared.page.Slot.{Slot}
use Rattle.paper.specs.declared.page.Header.{Header}

-- "a slot is length u16, offset u16, head u32"
abbrev pub slot_at : List ℕ → ℕ → Slot
slot_at p o = record { len = le 2 p o; offset = le 2 p (o + 2); head = le 4 p (o + 4) }

-- "slots fill the body from 0", and "body offsets count from page byte 96"
abbrev pub place : ℕ → ℕ
place i = 96 + 8 * i

unfoldable pub slot_of : List ℕ → ℕ → Slot
slot_of p i = slot_at p (place i)

-- "a prefix of up to 16 bytes is inline. A longer one fills the body's last bytes"
unfoldable pub prefix_of : List ℕ → ℕ → List ℕ
prefix_of p n = pick (leb n 16) (part n p 48) (part n p (16352 - n))

-- "a suffix of up to 4 bytes lives in its head; a longer one at its offset"
unfoldable pub suffix_of : List ℕ → Slot → List ℕ
suffix_of p s = pick (leb s.len 4) (take s.len (big_bytes 4 s.head)) (part s.len p (96 + s.offset))

-- the bytes of the body that n bytes take, where up to m live elsewhere: m is 4 for a suffix, 16 for a prefix
unfoldable pub body_bytes : ℕ → ℕ → ℕ
body_bytes m n = pick (leb n m) 0 n

-- where the value stands: "the value follows it, or stands at the offset itself for a short suffix"
abbrev pub value_at : Slot → ℕ
value_at s = 96 + s.offset + body_bytes 4 s.len

-- ---- an entry as it stands on the page
pub record Row : Type 0 where
  pub slot : Slot
  pub suffix : List ℕ
  pub value : ℕ

-- "widths: 8 (u64), 1 (byte), 0 (none)": w is the width
unfoldable pub row_of : ℕ → List ℕ → Slot → Row
row_of w p s = record { slot = s; suffix = suffix_of p s; value = le w p (value_at s) }

-- the first n entries
abbrev pub rows_of : ℕ → List ℕ → ℕ → List Row
rows_of w p n = tab n (λ i. row_of w p (slot_of p i))

-- ---- what begin sets and no other edit changes
pub record Frame : Type 0 where
  pub height : ℕ
  pub timestamp : ℕ
  pub lower : Slot
  pub lower_value : ℕ
  pub upper : Slot
  pub initialized : ℕ
  pub flag : ℕ
  pub prefix_len : ℕ
  pub inline : List ℕ
  pub prefix : List ℕ
  pub lower_suffix : List ℕ
  pub upper_suffix : List ℕ

-- "0 height u16 .. 8 timestamp u64, 16 lower fence slot, 24 lower fence value u64, 32 upper fence slot .. 44 initialized u8, 45 hints
-- flag u8, 46 prefix length u16, 48 inline prefix (16 bytes)"
unfoldable pub frame_of : List ℕ → Frame
frame_of p =
    record {
      height = le 2 p 0;
      timestamp = le 8 p 8;
      lower = slot_at p 16;
      lower_value = le 8 p 24;
      upper = slot_at p 32;
      initialized = le 1 p 44;
      flag = le 1 p 45;
      prefix_len = le 2 p 46;
      inline = part 16 p 48;
      prefix = prefix_of p (le 2 p 46);
      lower_suffix = suffix_of p (slot_at p 16);
      upper_suffix = suffix_of p (slot_at p 32);
    }

-- ---- what edits change: "2 count u16, 4 start u16, 6 end u16 .. 40 effective space u32"
pub record Numbers : Type 0 where
  pub count : ℕ
  pub start : ℕ
  pub end : ℕ
  pub effective : ℕ

unfoldable pub numbers_of : List ℕ → Numbers
numbers_of p = record { count = le 2 p 2; start = le 2 p 4; end = le 2 p 6; effective = le 4 p 40 }

-- the numbers of both, as the header's struct has them
unfoldable pub header_of : List ℕ → Header
header_of p =
    let f = frame_of p in
    let n = numbers_of p in
    record {
      height = f.height;
      count = n.count;
      start = n.start;
      end = n.end;
      timestamp = f.timestamp;
      lower = f.lower;
      lower_value = f.lower_value;
      upper = f.upper;
      effective = n.effective;
      initialized = f.initialized;
      flag = f.flag;
      prefix_len = f.prefix_len;
    }

-- ---- "64 hints (8 x u32)"
unfoldable pub hints_of : List ℕ → List ℕ
hints_of p = tab 8 (λ j. le 4 p (64 + 4 * j))

-- ---- the page, read once
pub record View : Type 0 where
  pub frame : Frame
  pub numbers : Numbers
  pub hints : List ℕ
  pub rows : List Row

unfoldable pub view_of : ℕ → List ℕ → View
view_of w p = record { frame = frame_of p; numbers = numbers_of p; hints = hints_of p; rows = rows_of w p (numbers_of p).count }

-- ---- keys: "the length is the suffix's (key without the page's prefix)"
abbrev pub key_of : Frame → Row → List ℕ
key_of f r = f.prefix ++ r.suffix

abbrev pub lower_fence : Frame → List ℕ
lower_fence f = f.prefix ++ f.lower_suffix

abbrev pub upper_fence : Frame → List ℕ
upper_fence f = f.prefix ++ f.upper_suffix
