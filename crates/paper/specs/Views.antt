-- The edits once more, on the page as it was read. Nothing here need be believed: each is proved to be what `view_of` reads off the edited
-- page.
use Rattle.std.specs.Prelude.{ℕ, ◌+◌, List, [], ◌∷◌, length, drop, get_or}
use Rattle.octets.specs.Bytes.{put}
use Rattle.keys.specs.Choice.{pick}
use Rattle.paper.specs.Lists.{ins, swap}
use Rattle.paper.specs.Page.{Row, Frame, Numbers, View}
use Rattle.paper.specs.Space.{begin_bytes}
use Rattle.paper.specs.Hints.{in_use, fresh}
use Rattle.paper.specs.Verdicts.{head_at}
use Rattle.paper.specs.Listing.{Entry}
use Rattle.paper.specs.Edits.{Begin, begin_prefix, begin_lower, begin_upper, lower_start, upper_start, fence_slot, inlined, slot_for, more, key_place, rekeyed}

-- entries and numbers anew, and all hints in use refreshed
unfoldable pub refreshed : View → Numbers → List Row → View
refreshed N n rs =
    record {
      frame = N.frame;
      numbers = n;
      hints = pick (in_use N.frame.flag n.count) (fresh n.count (head_at rs)) N.hints;
      rows = rs;
    }

-- the row of the suffix s with the value v, its payload at o
unfoldable pub row_for : List ℕ → ℕ → ℕ → Row
row_for s v o = record { slot = slot_for s o; suffix = s; value = v }

-- begin
unfoldable pub begin_frame : Frame → Begin → Frame
begin_frame f b =
    record {
      height = b.height;
      timestamp = b.timestamp;
      lower = fence_slot (begin_lower b) (lower_start b);
      lower_value = b.lower_value;
      upper = fence_slot (begin_upper b) (upper_start b);
      initialized = 1;
      flag = pick b.flag 1 0;
      prefix_len = length (begin_prefix b);
      inline = put f.inline 0 (inlined (begin_prefix b));
      prefix = begin_prefix b;
      lower_suffix = begin_lower b;
      upper_suffix = begin_upper b;
    }

unfoldable pub begin_view : View → Begin → View
begin_view N b =
    record {
      frame = begin_frame N.frame b;
      numbers = record { count = 0; start = 0; end = upper_start b; effective = 96 + begin_bytes b.lower b.upper };
      hints = N.hints;
      rows = [];
    }

-- insert the suffix s with the value v as slot i
unfoldable pub insert_view : ℕ → View → ℕ → List ℕ → ℕ → View
insert_view w N i s v =
    let n = more w N.numbers (length s) in
    refreshed N n (ins i (row_for s v n.end) N.rows)

-- set the value of slot i
abbrev pub no_row : Row
no_row = record { slot = record { len = 0; offset = 0; head = 0 }; suffix = []; value = 0 }

unfoldable pub set_row : Row → ℕ → Row
set_row r v = record { slot = r.slot; suffix = r.suffix; value = v }

unfoldable pub set_view : View → ℕ → ℕ → View
set_view N i v =
    record { frame = N.frame; numbers = N.numbers; hints = N.hints; rows = swap i (set_row (get_or N.rows i no_row) v) N.rows }

-- change the key of slot i to the suffix s
unfoldable pub change_view : ℕ → View → ℕ → List ℕ → View
change_view w N i s =
    let r = get_or N.rows i no_row in
    refreshed N (rekeyed w N.numbers r.slot s) (swap i (row_for s r.value (key_place w N.numbers r.slot s)) N.rows)

-- run copy: entries appended, then the hints
unfoldable pub append_view : ℕ → View → List Entry → View
append_view w N [] = N
append_view w N (e ∷ es) =
    let s = drop N.frame.prefix_len e.key in
    let n = more w N.numbers (length s) in
    append_view w (record { frame = N.frame; numbers = n; hints = N.hints; rows = ins N.numbers.count (row_for s e.value n.end) N.rows }) es

unfoldable pub run_view : ℕ → View → List Entry → View
run_view w N [] = N
run_view w N (e ∷ es) = let M = append_view w N (e ∷ es) in refreshed M M.numbers M.rows
