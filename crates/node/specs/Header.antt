-- The header rules on the numbers of a header alone.
use Rattle.std.specs.Prelude.{ℕ, ◌-◌, Bool, true, [], leb}
use Rattle.keys.specs.Choice.{pick, both}
use Rattle.paper.specs.Page.{Frame, Numbers}
use Rattle.paper.specs.Verdicts.{header_rules}
use Rattle.paper.specs.declared.page.Header.{Header}

-- what a header says of the frame; the bytes that it points to are left out
abbrev pub frame_in : Header → Frame
frame_in h =
    record {
      height = h.height;
      timestamp = h.timestamp;
      lower = h.lower;
      lower_value = h.lower_value;
      upper = h.upper;
      initialized = h.initialized;
      flag = h.flag;
      prefix_len = h.prefix_len;
      inline = [];
      prefix = [];
      lower_suffix = [];
      upper_suffix = [];
    }

abbrev pub numbers_in : Header → Numbers
numbers_in h = record { count = h.count; start = h.start; end = h.end; effective = h.effective }

-- the header rules look at no more
unfoldable pub rules_of : Header → Bool
rules_of h = header_rules (frame_in h) (numbers_in h)

-- "prefix at most 16,256, and a long one starts at or above end"
unfoldable pub prefix_held : ℕ → ℕ → Bool
prefix_held end n = both (leb n 16256) (pick (leb n 16) true (leb end (16256 - n)))
