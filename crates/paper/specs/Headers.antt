-- A header with one of its four numbers changed: "the header is read once, edited field by field and written back".
use Rattle.std.specs.Prelude.{ℕ}
use Rattle.paper.specs.declared.page.Header.{Header}

unfoldable pub with_count : Header → ℕ → Header
with_count h n =
    record {
      height = h.height;
      count = n;
      start = h.start;
      end = h.end;
      timestamp = h.timestamp;
      lower = h.lower;
      lower_value = h.lower_value;
      upper = h.upper;
      effective = h.effective;
      initialized = h.initialized;
      flag = h.flag;
      prefix_len = h.prefix_len;
    }

unfoldable pub with_start : Header → ℕ → Header
with_start h n =
    record {
      height = h.height;
      count = h.count;
      start = n;
      end = h.end;
      timestamp = h.timestamp;
      lower = h.lower;
      lower_value = h.lower_value;
      upper = h.upper;
      effective = h.effective;
      initialized = h.initialized;
      flag = h.flag;
      prefix_len = h.prefix_len;
    }

unfoldable pub with_end : Header → ℕ → Header
with_end h n =
    record {
      height = h.height;
      count = h.count;
      start = h.start;
      end = n;
      timestamp = h.timestamp;
      lower = h.lower;
      lower_value = h.lower_value;
      upper = h.upper;
      effective = h.effective;
      initialized = h.initialized;
      flag = h.flag;
      prefix_len = h.prefix_len;
    }

unfoldable pub with_effective : Header → ℕ → Header
with_effective h n =
    record {
      height = h.height;
      count = h.count;
      start = h.start;
      end = h.end;
      timestamp = h.timestamp;
      lower = h.lower;
      lower_value = h.lower_value;
      upper = h.upper;
      effective = n;
      initialized = h.initialized;
      flag = h.flag;
      prefix_len = h.prefix_len;
    }
