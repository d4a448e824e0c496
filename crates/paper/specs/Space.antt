-- "Filing rules": need, and the space numbers.
use Rattle.std.specs.Prelude.{ℕ, ◌+◌, ◌-◌, List, length}
use Rattle.keys.specs.Keys.{common}
use Rattle.paper.specs.Page.{body_bytes, Numbers}
use Rattle.paper.specs.declared.answers.Space.{Space}

-- bytes of the body of an entry whose suffix has n bytes: the suffix if above 4, and the value
abbrev pub payload_bytes : ℕ → ℕ → ℕ
payload_bytes w n = body_bytes 4 n + w

-- "need of an entry: 8 + width + (suffix length if above 4)"
unfoldable pub need : ℕ → ℕ → ℕ
need w n = 8 + w + body_bytes 4 n

-- "free = end - start"
abbrev pub free : Numbers → ℕ
free n = n.end - n.start

-- "used = 16,352 - free"
abbrev pub used : Numbers → ℕ
used n = 16352 - free n

-- "reclaimable = used - effective. Free after compaction = 16,352 - effective"
unfoldable pub space_of : Numbers → Space
space_of n =
    record {
      start = n.start;
      end = n.end;
      free = free n;
      used = used n;
      effective = n.effective;
      reclaimable = used n - n.effective;
      compacted = 16352 - n.effective;
    }

-- the body bytes of a prefix of n bytes and of two fence suffixes
unfoldable pub fence_bytes : ℕ → ℕ → ℕ → ℕ
fence_bytes n lower upper = body_bytes 16 n + body_bytes 4 lower + body_bytes 4 upper

-- the same of two fences, whose "prefix = the fences' longest common prefix"
unfoldable pub begin_bytes : List ℕ → List ℕ → ℕ
begin_bytes lower upper = let n = common lower upper in fence_bytes n (length lower - n) (length upper - n)
