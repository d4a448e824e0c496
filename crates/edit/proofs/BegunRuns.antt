-- The runs of a page that begins, as code writes them: a run below a place of the body, a fence's slot, the three runs downward, and the inline
-- prefix. Assumes nothing.
use Rattle.std.proofs.Common.{◌≡◌, refl, List, ℕ, ◌+◌, ◌-◌, ◌≤◌, ◌<◌, add-zero, arith, le-leb, length, take, drop, length-drop, take_all}
use borrow.Author.Tests.{lt-leb}
use borrow.Rule.Slice.PartMut.{put_mid, mid_of}
use lib.Seq.{take-length}
use Rattle.octets.specs.Bytes.{put}
use Rattle.octets.proofs.Put.{put_rest}
use Rattle.keys.specs.Keys.{head_of}
use Rattle.paper.specs.Page.{body_bytes}
use Rattle.paper.specs.Space.{fence_bytes}
use Rattle.paper.specs.Edits.{fence_slot, outline, inlined}
use Rattle.paper.specs.declared.page.Slot.{Slot}
use Rattle.paper.proofs.Same.{body_bytes_short, body_bytes_long}
use Rattle.edit.specs.Begins.{runs_placed, fences_of}
use Rattle.edit.specs.declared.fences.Fences.{Fences}

-- ---- the part of a list from a on
pub rest_is : (l : List ℕ) (a : ℕ) → take (length l - a) (drop a l) ≡ drop a l
rest_is l a = take_all (length l - a) (drop a l) (simp length-drop (omega arith))

pub rest-room : (p : List ℕ) (a n : ℕ) → a + n ≤ length p → n ≤ length (mid_of a (length p - a) p)
rest-room p a n h = rw (rest_is p a, length-drop) (omega arith)

-- a run put at its front, when it is back
pub rest_put : (p : List ℕ) (a : ℕ) (s q : List ℕ) → q ≡ put (mid_of a (length p - a) p) 0 s → put_mid a (length p - a) p q ≡ put p a s
rest_put p a s q e = rw (e, put_rest p a 0 s, add-zero)

-- ---- a run s that ends at a place of the body, if it is longer than m
module _ (m end : ℕ) (p s : List ℕ) where
  pub below-short : length s ≤ m → (end ≡ end - body_bytes m (length s)) × (p ≡ put p (96 + (end - body_bytes m (length s))) (outline m s))
  unfolding put
  below-short h = rw (body_bytes_short m (length s) h) (omega arith, refl)

  pub below-long : (q : List ℕ) → m < length s → q ≡ put p (96 + (end - length s)) s
      → (end - length s ≡ end - body_bytes m (length s)) × (q ≡ put p (96 + (end - body_bytes m (length s))) (outline m s))
  below-long q h e = rw (body_bytes_long m (length s) h, take-length s) (refl, e)

-- n bytes that go into the body have the room
pub long_room : (m n end : ℕ) → m < n → body_bytes m n ≤ end → n ≤ end
long_room m n end h k = omega (arith, body_bytes_long m n h)

-- ---- a fence's slot
module _ (s : List ℕ) (at h : ℕ) where
  pub slot-short : length s ≤ 4 → h ≡ head_of s → ◌≡◌ {A = Slot} (record { len = length s; offset = 0; head = h }) (fence_slot s at)
  unfolding fence_slot
  slot-short l e = rw (le-leb (length s) 4 l, e)

  pub slot-long : 4 < length s → h ≡ head_of s → ◌≡◌ {A = Slot} (record { len = length s; offset = at; head = h }) (fence_slot s at)
  unfolding fence_slot
  slot-long l e = rw (lt-leb (length s) 4 l, e)

pub ruleset by_length = (slot-short, slot-long)

-- ---- the three runs; a, b, c are their lengths
pub runs_room : (a b c : ℕ) → fence_bytes a b c ≤ 16256
    → (body_bytes 16 a ≤ 16256) × (body_bytes 4 b ≤ 16256 - body_bytes 16 a) × (body_bytes 4 c ≤ 16256 - body_bytes 16 a - body_bytes 4 b)
unfolding fence_bytes
runs_room a b c h = (omega arith, omega arith, omega arith)

-- t, m and e are where they begin, and q the page after each
pub runs_put : (p prefix lower upper : List ℕ) (t m e : ℕ) (q₁ q₂ q₃ : List ℕ) (l u : Slot)
    → (t ≡ 16256 - body_bytes 16 (length prefix)) × (q₁ ≡ put p (96 + (16256 - body_bytes 16 (length prefix))) (outline 16 prefix))
    → (m ≡ t - body_bytes 4 (length lower)) × (q₂ ≡ put q₁ (96 + (t - body_bytes 4 (length lower))) (outline 4 lower))
    → (e ≡ m - body_bytes 4 (length upper)) × (q₃ ≡ put q₂ (96 + (m - body_bytes 4 (length upper))) (outline 4 upper))
    → l ≡ fence_slot lower m → u ≡ fence_slot upper e
    → (◌≡◌ {A = Fences} (record { lower = l; upper = u; end = e }) (fences_of prefix lower upper)) × (q₃ ≡ runs_placed p prefix lower upper)
unfolding fences_of runs_placed
runs_put p prefix lower upper t m e q₁ q₂ q₃ l u T M E L U = rw (L, U, E.1, E.0, M.1, M.0, T.1, T.0) (refl, refl)

-- ---- the inline prefix
module _ (p s : List ℕ) where
  pub inline-long : 16 < length s → p ≡ put p 48 (inlined s)
  unfolding put
  inline-long h = rw (lt-leb (length s) 16 h)

  pub inline-short : (q : List ℕ) → length s ≤ 16 → q ≡ put p 48 s → q ≡ put p 48 (inlined s)
  inline-short q h e = rw (le-leb (length s) 16 h) e
