-- The refresh by a flag and a count that are known: it is document 01's refresh of a page that says them, and either side of its test as
-- code takes it. Assumes nothing.
use Rattle.std.proofs.Common.{◌≡◌, true, false, List, ℕ, ◌≤◌, leb-true, leb, eqb}
use Rattle.octets.specs.Bytes.{put}
use Rattle.paper.specs.Page.{slot_of, frame_of, numbers_of}
use Rattle.paper.specs.Hints.{in_use, fresh, flat, refresh}
use Rattle.paper.proofs.Lists.{both_parts}
use Rattle.hint.specs.Refresh.{refresh_as}

-- hints in use have slots to stand for
pub used-many : (flag n : ℕ) → in_use flag n ≡ true → 64 ≤ n
unfolding in_use
used-many flag n e = leb-true 64 n (both_parts (eqb flag 1) (leb 64 n) e).1

module _ (p : List ℕ) (flag n : ℕ) where
  -- a page whose header says flag and n
  pub refresh-as : flag ≡ (frame_of p).flag → n ≡ (numbers_of p).count → refresh_as flag n p ≡ refresh p
  unfolding refresh_as refresh
  refresh-as f k = rw (f, k)

  -- in use: hs are the hints that were taken, q is what their write leaves
  pub refresh-used : (hs q : List ℕ) → in_use flag n ≡ true → hs ≡ fresh n (λ i. (slot_of p i).head) → q ≡ put p 64 (flat hs) → q ≡ refresh_as flag n p
  unfolding refresh_as
  refresh-used hs q e h w = rw (e, ← h) w

  pub refresh-unused : in_use flag n ≡ false → p ≡ refresh_as flag n p
  unfolding refresh_as
  refresh-unused e = rw e

pub ruleset refreshing = (used-many, refresh-used, refresh-unused)
