-- "Filing rules": hints.
use Rattle.std.specs.Prelude.{ℕ, suc, ◌+◌, ◌*◌, ◌/◌, Bool, List, [], ◌∷◌, ◌++◌, leb, ltb, eqb}
use Rattle.octets.specs.Bytes.{bytes, put}
use Rattle.keys.specs.Choice.{pick, both}
use Rattle.paper.specs.Lists.{tab}
use Rattle.paper.specs.Page.{frame_of, numbers_of, slot_of}

-- "hints are in use when the flag is 1 and count >= 64"
unfoldable pub in_use : ℕ → ℕ → Bool
in_use flag count = both (eqb flag 1) (leb 64 count)

-- "window = count / 9"
abbrev pub window : ℕ → ℕ
window count = count / 9

-- "fresh: hint i is the head of slot (i+1) x window"; head is the head of a slot by its number
unfoldable pub fresh : ℕ → (ℕ → ℕ) → List ℕ
fresh count head = tab 8 (λ i. head ((i + 1) * window count))

-- numbers of four bytes, one after the other
unfoldable pub flat : List ℕ → List ℕ
flat [] = []
flat (h ∷ hs) = bytes 4 h ++ flat hs

-- "refresh all hints in use"
unfoldable pub refresh : List ℕ → List ℕ
refresh p =
    let n = (numbers_of p).count in
    pick (in_use (frame_of p).flag n) (put p 64 (flat (fresh n (λ i. (slot_of p i).head)))) p

-- ---- in a search
-- the first hint that passes, or the number of hints
unfoldable pub first_hint : (ℕ → Bool) → List ℕ → ℕ
first_hint f [] = 0
first_hint f (h ∷ hs) = pick (f h) 0 (suc (first_hint f hs))

-- "lo = first hint not below the head .. search slots lo x window"
unfoldable pub window_low : List ℕ → ℕ → ℕ → ℕ
window_low hs head count = first_hint (leb head) hs * window count

-- "up = first hint above it (8 if none) .. to (up+1) x window, or to count if up is 8"
unfoldable pub window_high : List ℕ → ℕ → ℕ → ℕ
window_high hs head count = let up = first_hint (ltb head) hs in pick (eqb up 8) count ((up + 1) * window count)
