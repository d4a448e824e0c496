-- What a key view shows.
use Rattle.std.specs.Prelude.{ℕ, ◌+◌, List, [], ◌++◌, leb, take}
use Rattle.octets.specs.Bytes.{part}
use Rattle.keys.specs.Choice.{pick}
use Rattle.paper.specs.declared.page.Slot.{Slot}
use Rattle.view.specs.declared.key.KeyView.{KeyView}

-- the suffix of n bytes that a view shows: its first short bytes, or the long one as it stands on the page
abbrev pub shown_suffix : List ℕ → List ℕ → ℕ → List ℕ
shown_suffix suffix short n = pick (leb n 4) (take n short) suffix

-- the key that a view shows
abbrev pub shown_key : List ℕ → List ℕ → List ℕ → ℕ → List ℕ
shown_key prefix suffix short n = prefix ++ shown_suffix suffix short n

-- the bytes of a long suffix on the page; a short one has none there
abbrev pub long_suffix : List ℕ → Slot → List ℕ
long_suffix p s = pick (leb s.len 4) [] (part s.len p (96 + s.offset))

-- the key that this view shows
abbrev pub shown : KeyView → List ℕ
shown v = shown_key v.prefix.now v.suffix.now v.short v.len
