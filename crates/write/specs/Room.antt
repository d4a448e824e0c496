-- The header after an edit, and the facts of a fit page that the writing halves ask for.
use Rattle.std.specs.Prelude.{◌≡◌, true, List, ℕ, ◌+◌, ◌*◌, ◌≤◌, ◌<◌, length, drop}
use Rattle.paper.specs.Page.{slot_of, row_of, body_bytes, frame_of, Numbers, numbers_of, header_of}
use Rattle.paper.specs.Space.{payload_bytes}
use Rattle.paper.specs.Listing.{Entry, entry_of}
use Rattle.paper.specs.Edits.{outgrows}
use Rattle.paper.specs.Calls.{need_of_all}
use Rattle.paper.specs.declared.page.Header.{Header}

-- the header with other numbers
unfoldable pub with_numbers : Header → Numbers → Header
with_numbers h n =
    record {
      height = h.height;
      count = n.count;
      start = n.start;
      end = n.end;
      timestamp = h.timestamp;
      lower = h.lower;
      lower_value = h.lower_value;
      upper = h.upper;
      effective = n.effective;
      initialized = h.initialized;
      flag = h.flag;
      prefix_len = h.prefix_len;
    }

-- insert: the page p with header h has room for a slot i whose suffix has k bytes
pub record Room (w : ℕ) (p : List ℕ) (h : Header) (i k : ℕ) : Type 0 where
  pub size : 16384 ≤ length p
  pub header : h ≡ header_of p
  pub slot : i ≤ h.count
  pub start : h.start ≡ 8 * h.count
  pub top : h.end ≤ 16256
  pub effective : h.effective ≤ 16352
  pub room : h.start + 8 + payload_bytes w k ≤ h.end

-- change key: slot i of the page p with header h can take the suffix s, in place or in a new payload
pub record Seat (w : ℕ) (p : List ℕ) (h : Header) (i : ℕ) (s : List ℕ) : Type 0 where
  pub size : 16384 ≤ length p
  pub width : w ≤ 8
  pub suffix : length s ≤ 65535
  pub header : h ≡ header_of p
  pub slot : i < h.count
  pub start : h.start ≡ 8 * h.count
  pub order : h.start ≤ h.end
  pub top : h.end ≤ 16256
  pub effective : h.effective ≤ 16352
  pub dropped : body_bytes 4 (slot_of p i).len ≤ h.effective
  pub payload : (slot_of p i).offset + payload_bytes w (slot_of p i).len ≤ 16256
  pub room : outgrows (slot_of p i) s ≡ true → h.start + payload_bytes w (length s) ≤ h.end

-- run copy: entries of the page q, whose prefix has l bytes, can be read
pub record Source (w : ℕ) (q : List ℕ) (l : ℕ) : Type 0 where
  pub size : 16384 ≤ length q
  pub width : w ≤ 8
  pub prefix : l ≡ (frame_of q).prefix_len
  pub most : l ≤ 16256
  pub slots : 8 * (numbers_of q).count ≤ 16256
  pub rows : (j : ℕ) → j < (numbers_of q).count → (slot_of q j).offset + payload_bytes w (slot_of q j).len ≤ 16256

-- its entry j
abbrev pub entry_at : ℕ → List ℕ → ℕ → Entry
entry_at w q j = entry_of (frame_of q) (row_of w q (slot_of q j))

-- what is filed of an entry's key on a page with header h: all but that page's prefix
abbrev pub cut_key : Header → Entry → List ℕ
cut_key h e = drop h.prefix_len e.key

-- and the page p with header h has room for the entries es
pub record Ready (w : ℕ) (p : List ℕ) (h : Header) (es : List Entry) : Type 0 where
  pub size : 16384 ≤ length p
  pub header : h ≡ header_of p
  pub start : h.start ≡ 8 * h.count
  pub top : h.end ≤ 16256
  pub effective : h.effective + need_of_all w p es ≤ 16352
  pub room : h.start + need_of_all w p es ≤ h.end
