-- What one sweep over the entries shows.
use Rattle.std.specs.Prelude.{◌≡◌, ℕ, ◌+◌, ◌-◌, ◌*◌, ◌≤◌, ◌<◌, true, List, Option, MatchOption}
use Rattle.paper.specs.Page.{slot_of}
use Rattle.paper.specs.Verdicts.{slot_payload, within}
use Rattle.paper.specs.declared.page.Header.{Header}
use Rattle.verdict.specs.Pieces.{held_with, piece_at, disjoint_with}
use Rattle.verdict.specs.Honest.{Honest}
use Rattle.verdict.specs.Starts.{Starts, Lone}
use Rattle.verdict.specs.Tally.{tally_of}

-- a map of n cells from o on has a cell for each byte of the pieces, and eight for their ends
pub record Room (h : Header) (o n : ℕ) : Type 0 where
  pub low : o ≤ h.end
  pub high : 16320 ≤ o + 8 * n
  pub most : n ≤ 16384

-- the entry before entry i has a faithful head, and this is it
pub record Before (p : List ℕ) (i head : ℕ) : Type 0 where
  pub honest : 0 < i → Honest p (slot_of p (i - 1))
  pub is_head : 0 < i → head ≡ (slot_of p (i - 1)).head

-- the head of the entry before entry i, if there is one
abbrev pub HeadBefore : List ℕ → ℕ → Option ℕ → Type 0
HeadBefore p i last = MatchOption last (i ≡ 0) (λ head. (0 < i) × Before p i head)

-- the first n entries keep U2, U4 and U7, their needs are known, and m has their starts
pub record Swept (w : ℕ) (p : List ℕ) (h : Header) (o n needs : ℕ) (m : List ℕ) : Type 0 where
  pub held : (k : ℕ) → k < n → within h.end (slot_payload w (slot_of p k)) ≡ true
  pub faithful : (tally_of w p h n).faithful ≡ true
  pub rising : (tally_of w p h n).rising ≡ true
  pub sum : needs ≡ (tally_of w p h n).needs
  pub starts : Starts (piece_at w p h) o n m

-- the pieces from a up to b have no start within them
pub record AllLone (w : ℕ) (p : List ℕ) (h : Header) (o a b : ℕ) (m : List ℕ) : Type 0 where
  pub lone : (k : ℕ) → a ≤ k → k < b → (piece_at w p h k).lo < (piece_at w p h k).hi → Lone m ((piece_at w p h k).lo - o) ((piece_at w p h k).hi - o)

-- all entries keep U2, U4 and U7, U3 holds, and the needs are known
pub record Sound (w : ℕ) (p : List ℕ) (h : Header) (needs : ℕ) : Type 0 where
  pub held : held_with w p h ≡ true
  pub disjoint : disjoint_with w p h ≡ true
  pub faithful : (tally_of w p h h.count).faithful ≡ true
  pub rising : (tally_of w p h h.count).rising ≡ true
  pub sum : needs ≡ (tally_of w p h h.count).needs
