-- U4 to U9 by a header that was read. Keys of a page share its prefix, so suffixes stand for them.
use Rattle.std.specs.Prelude.{ℕ, ◌+◌, Bool, true, List, eqb}
use Rattle.keys.specs.Choice.{pick, both}
use Rattle.keys.specs.Keys.{same_list, head_of}
use Rattle.paper.specs.Lists.{tab, all, sum, less, rising}
use Rattle.paper.specs.Page.{slot_of, suffix_of, hints_of}
use Rattle.paper.specs.Space.{need, fence_bytes}
use Rattle.paper.specs.Hints.{in_use, fresh}
use Rattle.paper.specs.Verdicts.{faithful}
use Rattle.paper.specs.declared.page.Slot.{Slot}
use Rattle.paper.specs.declared.page.Header.{Header}
use Rattle.search.specs.Fence.{inside_by}
use Rattle.verdict.specs.declared.tally.Tally.{Tally}

-- a slot with the head that its suffix has
unfoldable pub honest_of : List ℕ → Slot → Slot
honest_of p s = record { len = s.len; offset = s.offset; head = head_of (suffix_of p s) }

-- the suffix of entry i
abbrev pub suffix_at : List ℕ → ℕ → List ℕ
suffix_at p i = suffix_of p (slot_of p i)

-- what the first n entries say of U4, U6, U7 and U8
unfoldable pub tally_of : ℕ → List ℕ → Header → ℕ → Tally
tally_of w p h n =
    record {
      faithful = all (λ s. faithful s (suffix_of p s)) (tab n (slot_of p));
      inside = all (inside_by p h) (tab n (suffix_at p));
      rising = rising (tab n (suffix_at p));
      needs = sum (λ (s : Slot). need w s.len) (tab n (slot_of p));
    }

-- "lower < upper where the upper slot isn't empty"
unfoldable pub fences_rise_with : List ℕ → Header → Bool
fences_rise_with p h = pick (eqb h.upper.len 0) true (less (suffix_of p h.lower) (suffix_of p h.upper))

-- U4 of the fences
unfoldable pub fences_faithful_with : List ℕ → Header → Bool
fences_faithful_with p h = both (faithful h.lower (suffix_of p h.lower)) (faithful h.upper (suffix_of p h.upper))

-- "U5 an empty upper slot only with prefix 0; otherwise lower < upper"
unfoldable pub fences_fit_with : List ℕ → Header → Bool
fences_fit_with p h = pick (eqb h.upper.len 0) (eqb h.prefix_len 0) (less (suffix_of p h.lower) (suffix_of p h.upper))

-- "U8 effective = 96 + body bytes of prefix and fences + needs of all entries"
unfoldable pub effective_with : Header → ℕ → Bool
effective_with h needs = eqb h.effective (96 + fence_bytes h.prefix_len h.lower.len h.upper.len + needs)

-- "U9 hints in use are fresh"
unfoldable pub hints_fresh_with : List ℕ → Header → Bool
hints_fresh_with p h = pick (in_use h.flag h.count) (same_list (hints_of p) (fresh h.count (λ i. (slot_of p i).head))) true
