-- The 96 header bytes are what frame, numbers and hints say, and hints in use are what the listing says: so pages that agree in these have
-- the same header. Assumes nothing.
use Rattle.std.proofs.Common.{◌≡◌, refl, sym, ap, ◌∙◌, true, List, [], ◌∷◌, map, ℕ, zero, suc, ◌+◌, ◌*◌, ◌-◌, ◌≤◌, ◌<◌, min, arith, eqb-true, length, take, drop, get_or, length-take, ext_get_or, get_or-take}
use lib.Seq.{drop-append_seam}
use Rattle.octets.specs.Bytes.{IsBytes, le, part}
use Rattle.octets.proofs.Part.{part_at}
use Rattle.octets.proofs.Little.{le_same}
use Rattle.keys.specs.Choice.{both}
use Rattle.keys.specs.Keys.{head_of}
use Rattle.keys.proofs.Orders.{same_list_eq}
use Rattle.paper.specs.Lists.{tab, all}
use Rattle.paper.specs.Page.{Row, Frame, frame_of, Numbers, numbers_of, hints_of, View, view_of}
use Rattle.paper.specs.Hints.{in_use, window, fresh}
use Rattle.paper.specs.Verdicts.{faithful, head_at, u4, u9}
use Rattle.paper.specs.Listing.{Entry, entry_of, listing}
use Rattle.paper.proofs.Lists.{both_parts, getD-tab, tab-ext}
use Rattle.paper.proofs.Same.{Same, same_join}
use Rattle.paper.proofs.Fit.{Fit}

-- ---- bytes from numbers
module _ (p q : List ℕ) (hp : IsBytes p) (hq : IsBytes q) where
  from_le : (n o : ℕ) → le n p o ≡ le n q o → Same p q o (o + n)
  from_le n o e j l m = let f : o + (j - o) ≡ j = omega arith in rw f at (le_same n p o q o hp hq e (j - o) (omega arith))

  from-part : (n o : ℕ) → part n p o ≡ part n q o → Same p q o (o + n)
  from-part n o e j l m =
      let f : o + (j - o) ≡ j = omega arith in
      let k : j - o < n = omega arith in
      rw f at (sym (part_at n p o (j - o) k) ∙ ap (λ (x : List ℕ). get_or x (j - o) 0) e ∙ part_at n q o (j - o) k)

  from-hints : hints_of p ≡ hints_of q → (n : ℕ) → n ≤ 8 → Same p q 64 (64 + 4 * n)
  unfolding hints_of
  from-hints e zero h = λ j l m. absurd (omega arith)
  from-hints e (suc n) h =
      let next = from-hints e n (omega arith) in
      let at : (r : List ℕ) → get_or (tab 8 (λ i. le 4 r (64 + 4 * i))) n 0 ≡ le 4 r (64 + 4 * n) = λ r. getD-tab 8 (λ i. le 4 r (64 + 4 * i)) n 0 (omega arith) in
      let here = from_le 4 (64 + 4 * n) (sym (at p) ∙ ap (λ (x : List ℕ). get_or x n 0) e ∙ at q) in
      let f : 64 + 4 * suc n ≡ 64 + 4 * n + 4 = omega arith in
      rw f (same_join p q 64 (64 + 4 * n) (64 + 4 * n + 4) next here)

  pub header-bytes : length p ≡ length q → frame_of p ≡ frame_of q → numbers_of p ≡ numbers_of q → hints_of p ≡ hints_of q → take 96 p ≡ take 96 q
  header-bytes l f n t =
      ext_get_or 0 (take 96 p) (take 96 q) (simp length-take (rw l))
      (λ j b. let c : j < min 96 (length p) = rw length-take at b in rw (get_or-take 96 p j 0 (omega arith), get_or-take 96 q j 0 (omega arith)) (whole j (omega arith) (omega arith)))
    where
      join : (a b c : ℕ) → Same p q a b → Same p q b c → Same p q a c
      join a b c = same_join p q a b c

      whole : Same p q 0 96
      whole = unfold frame_of numbers_of in
          join 0 2 96 (from_le 2 0 (ap (λ (x : Frame). x.height) f))
          (join 2 4 96 (from_le 2 2 (ap (λ (x : Numbers). x.count) n))
          (join 4 6 96 (from_le 2 4 (ap (λ (x : Numbers). x.start) n))
          (join 6 8 96 (from_le 2 6 (ap (λ (x : Numbers). x.end) n))
          (join 8 16 96 (from_le 8 8 (ap (λ (x : Frame). x.timestamp) f))
          (join 16 18 96 (from_le 2 16 (ap (λ (x : Frame). x.lower.len) f))
          (join 18 20 96 (from_le 2 18 (ap (λ (x : Frame). x.lower.offset) f))
          (join 20 24 96 (from_le 4 20 (ap (λ (x : Frame). x.lower.head) f))
          (join 24 32 96 (from_le 8 24 (ap (λ (x : Frame). x.lower_value) f))
          (join 32 34 96 (from_le 2 32 (ap (λ (x : Frame). x.upper.len) f))
          (join 34 36 96 (from_le 2 34 (ap (λ (x : Frame). x.upper.offset) f))
          (join 36 40 96 (from_le 4 36 (ap (λ (x : Frame). x.upper.head) f))
          (join 40 44 96 (from_le 4 40 (ap (λ (x : Numbers). x.effective) n))
          (join 44 45 96 (from_le 1 44 (ap (λ (x : Frame). x.initialized) f))
          (join 45 46 96 (from_le 1 45 (ap (λ (x : Frame). x.flag) f))
          (join 46 48 96 (from_le 2 46 (ap (λ (x : Frame). x.prefix_len) f))
          (join 48 64 96 (from-part 16 48 (ap (λ (x : Frame). x.inline) f)) (from-hints t 8 (omega arith))))))))))))))))))

-- ---- hints in use are the heads of the listing's keys
unfoldable pub head_in : ℕ → List Entry → ℕ → ℕ
head_in n [] k = 0
head_in n (e ∷ l) zero = head_of (drop n e.key)
head_in n (e ∷ l) (suc k) = head_in n l k

heads_listing : (f : Frame) (rs : List Row) → all (λ r. faithful r.slot r.suffix) rs ≡ true → (k : ℕ)
    → head_at rs k ≡ head_in (length f.prefix) (map (entry_of f) rs) k
unfolding head_at head_in all
heads_listing f [] e k = refl
heads_listing f (r ∷ rs) e zero =
    rw (drop-append_seam f.prefix r.suffix)
    (unfold faithful in eqb-true r.slot.head (head_of r.suffix) (both_parts (faithful r.slot r.suffix) (all (λ r. faithful r.slot r.suffix) rs) e).0)
heads_listing f (r ∷ rs) e (suc k) =
    heads_listing f rs (both_parts (faithful r.slot r.suffix) (all (λ r. faithful r.slot r.suffix) rs) e).1 k

-- U4 for the entries
pub entries-faithful : (w : ℕ) (N : View) → Fit w N → all (λ (r : Row). faithful r.slot r.suffix) N.rows ≡ true
unfolding u4
entries-faithful w N F =
    (both_parts (both (faithful N.frame.lower N.frame.lower_suffix) (faithful N.frame.upper N.frame.upper_suffix))
    (all (λ (r : Row). faithful r.slot r.suffix) N.rows) F.r4).1

-- U9 where hints are in use
pub hints-fresh : (w : ℕ) (p : List ℕ) → Fit w (view_of w p) → in_use (frame_of p).flag (numbers_of p).count ≡ true
    → hints_of p ≡ fresh (numbers_of p).count (head_at (view_of w p).rows)
unfolding view_of u9
hints-fresh w p F h = same_list_eq (hints_of p) (fresh (numbers_of p).count (head_at (view_of w p).rows)) (rw h at F.r9)

pub hints-listing : (w : ℕ) (p : List ℕ) → Fit w (view_of w p) → in_use (frame_of p).flag (numbers_of p).count ≡ true
    → hints_of p ≡ fresh (numbers_of p).count (head_in (length (frame_of p).prefix) (listing w p))
hints-listing w p F h = hints-fresh w p F h ∙ heads
  where
    heads : fresh (numbers_of p).count (head_at (view_of w p).rows) ≡ fresh (numbers_of p).count (head_in (length (frame_of p).prefix) (listing w p))
    heads = unfold fresh listing view_of in
        tab-ext 8 (λ i. head_at (view_of w p).rows ((i + 1) * window (numbers_of p).count))
        (λ i. head_in (length (frame_of p).prefix) (map (entry_of (frame_of p)) (view_of w p).rows) ((i + 1) * window (numbers_of p).count))
        (λ i l. heads_listing (frame_of p) (view_of w p).rows (entries-faithful w (view_of w p) F) ((i + 1) * window (numbers_of p).count))
