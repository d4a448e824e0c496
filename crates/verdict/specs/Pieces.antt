-- U2 and U3 by a header that was read: where the payloads lie, and the pieces one after the other.
use Rattle.std.specs.Prelude.{ℕ, ◌+◌, Bool, List, ltb, eqb}
use Rattle.keys.specs.Choice.{pick}
use Rattle.paper.specs.Lists.{tab, all, pairs}
use Rattle.paper.specs.Page.{slot_of}
use Rattle.paper.specs.Verdicts.{Piece, slot_payload, fence_piece, prefix_piece, within, apart}
use Rattle.paper.specs.declared.page.Header.{Header}

-- "U2 every entry's payload lies in end..16,256"
unfoldable pub held_with : ℕ → List ℕ → Header → Bool
held_with w p h = all (within h.end) (tab h.count (λ i. slot_payload w (slot_of p i)))

-- piece j: the payloads in slot order, then the prefix, the lower fence and the upper one
unfoldable pub piece_at : ℕ → List ℕ → Header → ℕ → Piece
piece_at w p h j =
    pick (ltb j h.count) (slot_payload w (slot_of p j))
    (pick (eqb j h.count) (prefix_piece h.prefix_len) (pick (eqb j (h.count + 1)) (fence_piece h.lower) (fence_piece h.upper)))

-- "U3 non-empty pieces (long prefix, long fence suffixes, payloads) are disjoint"
unfoldable pub disjoint_with : ℕ → List ℕ → Header → Bool
disjoint_with w p h = pairs apart (tab (h.count + 3) (piece_at w p h))
