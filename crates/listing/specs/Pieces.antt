-- What the functions that list a page ask of it.
use Rattle.std.specs.Prelude.{ℕ, ◌+◌, ◌≤◌, ◌<◌, List, length}
use Rattle.paper.specs.Page.{slot_of, body_bytes}

-- what listing n entries at width w asks of the page p whose prefix has m bytes; every fit page has it
pub record Listable (w : ℕ) (p : List ℕ) (n m : ℕ) : Type 0 where
  pub size : 16384 ≤ length p
  pub width : w ≤ 8
  pub count : n ≤ 2032
  pub prefix : m ≤ 16256
  pub rows : (i : ℕ) → i < n → (slot_of p i).offset + (body_bytes 4 (slot_of p i).len + w) ≤ 16256
