-- "Two verdicts".
use Rattle.std.specs.Prelude.{ℕ, zero, suc, ◌+◌, ◌*◌, ◌-◌, min, max, Bool, true, not, List, [], ◌∷◌, ◌++◌, map, leb, eqb}
use Rattle.keys.specs.Choice.{pick, both}
use Rattle.keys.specs.Keys.{head_of, same_list}
use Rattle.paper.specs.Lists.{every, all, pairs, sum, less, rising}
use Rattle.paper.specs.Page.{body_bytes, Row, Frame, Numbers, View, view_of, key_of, lower_fence, upper_fence}
use Rattle.paper.specs.Space.{payload_bytes, need, fence_bytes}
use Rattle.paper.specs.Hints.{in_use, fresh}
use Rattle.paper.specs.declared.page.Slot.{Slot}

-- ---- pieces: the bytes lo..hi of the body
pub record Piece : Type 0 where
  pub lo : ℕ
  pub hi : ℕ

-- an entry's payload
abbrev pub slot_payload : ℕ → Slot → Piece
slot_payload w s = record { lo = s.offset; hi = s.offset + payload_bytes w s.len }

unfoldable pub payload : ℕ → Row → Piece
payload w r = slot_payload w r.slot

-- a fence's suffix, empty if it is short
unfoldable pub fence_piece : Slot → Piece
fence_piece s = record { lo = s.offset; hi = s.offset + body_bytes 4 s.len }

-- the prefix, empty if it is inline
unfoldable pub prefix_piece : ℕ → Piece
prefix_piece n = record { lo = 16256 - body_bytes 16 n; hi = 16256 }

abbrev pub frame_pieces : Frame → List Piece
frame_pieces f = prefix_piece f.prefix_len ∷ fence_piece f.lower ∷ fence_piece f.upper ∷ []

-- a piece lies in end..16,256
unfoldable pub within : ℕ → Piece → Bool
within end a = both (leb end a.lo) (leb a.hi 16256)

-- two pieces have no byte in common; an empty one has none
unfoldable pub apart : Piece → Piece → Bool
apart a b = leb (min a.hi b.hi) (max a.lo b.lo)

-- ---- "header rules: initialized 1; flag 0 or 1; start = 8 x count; start <= end <= 16,256; effective 96 to 16,352; prefix at most
-- 16,256, and a long one starts at or above end; long fences within end..16,256. Unlike the Rust, an empty leaf passes here"
unfoldable pub long_within : ℕ → Slot → Bool
long_within end s = pick (leb s.len 4) true (within end (fence_piece s))

unfoldable pub header_rules : Frame → Numbers → Bool
header_rules f n =
    every
    (eqb f.initialized 1
    ∷ leb f.flag 1
    ∷ eqb n.start (8 * n.count)
    ∷ leb n.start n.end
    ∷ leb n.end 16256
    ∷ leb 96 n.effective
    ∷ leb n.effective 16352
    ∷ leb f.prefix_len 16256
    ∷ pick (leb f.prefix_len 16) true (leb n.end (16256 - f.prefix_len))
    ∷ long_within n.end f.lower
    ∷ long_within n.end f.upper
    ∷ [])

-- ---- fences
-- an upper slot of length 0 bounds nothing
unfoldable pub upper_empty : Frame → Bool
upper_empty f = eqb f.upper.len 0

-- "lower fence included, upper excluded"
unfoldable pub inside : Frame → List ℕ → Bool
inside f k = both (not (less k (lower_fence f))) (pick (upper_empty f) true (less k (upper_fence f)))

-- ---- the rules
abbrev pub keys_of : View → List (List ℕ)
keys_of N = map (key_of N.frame) N.rows

-- a head is that of the suffix, padding included
unfoldable pub faithful : Slot → List ℕ → Bool
faithful s x = eqb s.head (head_of x)

-- the head of row i
unfoldable pub head_at : List Row → ℕ → ℕ
head_at [] i = 0
head_at (r ∷ rs) zero = r.slot.head
head_at (r ∷ rs) (suc i) = head_at rs i

-- "U1 header rules"
abbrev pub u1 : View → Bool
u1 N = header_rules N.frame N.numbers

-- "U2 every entry's payload lies in end..16,256"
unfoldable pub u2 : ℕ → View → Bool
u2 w N = all (within N.numbers.end) (map (payload w) N.rows)

-- "U3 non-empty pieces (long prefix, long fence suffixes, payloads) are disjoint"
unfoldable pub u3 : ℕ → View → Bool
u3 w N = pairs apart (map (payload w) N.rows ++ frame_pieces N.frame)

-- "U4 heads of fences and entries are faithful, padding included"
unfoldable pub u4 : View → Bool
u4 N =
    both (both (faithful N.frame.lower N.frame.lower_suffix) (faithful N.frame.upper N.frame.upper_suffix))
    (all (λ r. faithful r.slot r.suffix) N.rows)

-- "U5 an empty upper slot only with prefix 0; otherwise lower < upper"
unfoldable pub u5 : View → Bool
u5 N = pick (upper_empty N.frame) (eqb N.frame.prefix_len 0) (less (lower_fence N.frame) (upper_fence N.frame))

-- "U6 entries within fences"
unfoldable pub u6 : View → Bool
u6 N = all (inside N.frame) (keys_of N)

-- "U7 keys strictly rising"
unfoldable pub u7 : View → Bool
u7 N = rising (keys_of N)

-- "U8 effective = 96 + body bytes of prefix and fences + needs of all entries"
unfoldable pub u8 : ℕ → View → Bool
u8 w N =
    let f = N.frame in
    eqb N.numbers.effective (96 + fence_bytes f.prefix_len f.lower.len f.upper.len + sum (λ r. need w r.slot.len) N.rows)

-- "U9 hints in use are fresh"
unfoldable pub u9 : View → Bool
u9 N =
    let n = N.numbers.count in
    pick (in_use N.frame.flag n) (same_list N.hints (fresh n (head_at N.rows))) true

-- ---- "fit verdict: 0, or the first rule broken"
unfoldable pub first_broken : ℕ → List Bool → ℕ
first_broken n [] = 0
first_broken n (u ∷ us) = pick u (first_broken (suc n) us) n

unfoldable pub fit_view : ℕ → View → ℕ
fit_view w N = first_broken 1 (u1 N ∷ u2 w N ∷ u3 w N ∷ u4 N ∷ u5 N ∷ u6 N ∷ u7 N ∷ u8 w N ∷ u9 N ∷ [])

unfoldable pub fit_of : ℕ → List ℕ → ℕ
fit_of w p = fit_view w (view_of w p)

-- ---- "layout verdict (yes or no), as `validate_persisted_layout`: the header rules with an empty leaf refused, U2, U3, lower < upper where the upper slot isn't empty
-- (an empty one bounds nothing), U6 and U7, short suffixes read from their heads as stored"
unfoldable pub empty_leaf : View → Bool
empty_leaf N = both (eqb N.frame.height 0) (eqb N.numbers.count 0)

unfoldable pub fences_rise : Frame → Bool
fences_rise f = pick (upper_empty f) true (less (lower_fence f) (upper_fence f))

unfoldable pub layout_view : ℕ → View → Bool
layout_view w N = every (u1 N ∷ not (empty_leaf N) ∷ u2 w N ∷ u3 w N ∷ fences_rise N.frame ∷ u6 N ∷ u7 N ∷ [])

unfoldable pub layout_of : ℕ → List ℕ → Bool
layout_of w p = layout_view w (view_of w p)
