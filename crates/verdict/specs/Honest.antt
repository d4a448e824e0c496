-- What the pass over the entries asks of slots.
use Rattle.std.specs.Prelude.{ℕ, ◌+◌, ◌-◌, ◌≤◌, ◌<◌, ◌≡◌, List, length, Option, MatchOption}
use Rattle.keys.specs.Keys.{head_of}
use Rattle.paper.specs.Page.{slot_of, suffix_of}
use Rattle.paper.specs.declared.page.Slot.{Slot}
use Rattle.paper.specs.declared.page.Header.{Header}
use Rattle.verdict.specs.Tally.{honest_of, tally_of}
use Rattle.verdict.specs.declared.fences.Fences.{Fences}
use Rattle.verdict.specs.declared.tally.Tally.{Tally}

-- a slot whose head is that of its suffix; a long suffix lies on the page
pub record Honest (p : List ℕ) (s : Slot) : Type 0 where
  pub faithful : s.head ≡ head_of (suffix_of p s)
  pub room : 4 < s.len → 96 + s.offset + s.len ≤ length p

-- the fences of a page as slots with the heads that their suffixes have
pub record FencesOf (p : List ℕ) (h : Header) (f : Fences) : Type 0 where
  pub low : f.low ≡ honest_of p h.lower
  pub high : f.high ≡ honest_of p h.upper
  pub honest_low : Honest p f.low
  pub honest_high : Honest p f.high
  pub lower : suffix_of p f.low ≡ suffix_of p h.lower
  pub upper : suffix_of p f.high ≡ suffix_of p h.upper

-- the slot of the entry before entry i, if there is one, with the head that its suffix has
abbrev pub LastIs : List ℕ → ℕ → Option Slot → Type 0
LastIs p i last = MatchOption last (i ≡ 0) (λ l. (0 < i) × (l ≡ honest_of p (slot_of p (i - 1))) × Honest p l)

-- before entry i is weighed: s is its slot with the head that its suffix has, last that of the entry before it, and t is the tally so far
pub record Turn (w : ℕ) (p : List ℕ) (h : Header) (i : ℕ) (f : Fences) (last : Option Slot) (s : Slot) (t : Tally) : Type 0 where
  pub number : i < 2032
  pub fences : FencesOf p h f
  pub slot : s ≡ honest_of p (slot_of p i)
  pub before : LastIs p i last
  pub honest_slot : Honest p s
  pub tally : t ≡ tally_of w p h i
