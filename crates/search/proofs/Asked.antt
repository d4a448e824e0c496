-- What searches ask of a header's numbers, where the page keeps the header rules. Assumes nothing.
use Rattle.std.proofs.Common.{◌≡◌, refl, List, ℕ, ◌*◌, ◌≤◌, ◌<◌, arith, length, Ok}
use Rattle.octets.specs.Bytes.{le}
use Rattle.paper.specs.Page.{frame_of, numbers_of, header_of}
use Rattle.paper.specs.Verdicts.{fence_piece}
use Rattle.paper.specs.declared.page.Slot.{Slot}
use Rattle.paper.specs.declared.page.Header.{Header}
use Rattle.paper.proofs.Same.{body_bytes_long}
use Rattle.paper.proofs.Fit.{Lie, Rules}
use Rattle.node.specs.Admit.{admit_of}
use Rattle.node.proofs.Admits.{slots-within, prefix_lies}
use Rattle.search.specs.Fence.{LongLies}

module _ (p : List ℕ) (h : Header) (e : h ≡ header_of p) (R : Rules (frame_of p) (numbers_of p)) where
  pub prefix_fits : h.prefix_len ≤ 16256
  unfolding header_of
  prefix_fits = rw e R.prefix_most

  pub slots-fit : 8 * h.count ≤ 16256
  unfolding header_of
  slots-fit = rw e (omega (arith, R.start, R.order, R.top))

  -- long fences lie within the page
  pub fences-fit : length p ≡ 16384 → LongLies (length p) h.lower × LongLies (length p) h.upper
  unfolding header_of
  fences-fit size = rw (e, size) (lies (frame_of p).lower R.lower, lies (frame_of p).upper R.upper)
    where
      lies : (s : Slot) → (4 < s.len → Lie (numbers_of p).end (fence_piece s)) → LongLies 16384 s
      lies s g l = unfold fence_piece in let x = (g l).1 in omega (arith, body_bytes_long 4 s.len l, x)

-- ---- what the test of the fences asks of a page whose rules hold
pub inside_asked : (p : List ℕ) → Rules (frame_of p) (numbers_of p) → length p ≡ 16384
    → (40 ≤ length p) × LongLies (length p) (header_of p).lower × LongLies (length p) (header_of p).upper
inside_asked p R size = let f = fences-fit p (header_of p) refl R size in (omega arith, f.0, f.1)

-- ---- the numbers of a header, read from the page
module _ (p : List ℕ) (n : ℕ) where
  pub count-read : n ≡ le 2 p 2 → n ≡ (header_of p).count
  unfolding header_of numbers_of
  count-read e = e

  pub start-read : n ≡ le 2 p 4 → n ≡ (header_of p).start
  unfolding header_of numbers_of
  start-read e = e

  pub end_read : n ≡ le 2 p 6 → n ≡ (header_of p).end
  unfolding header_of numbers_of
  end_read e = e

  pub flag-read : n ≡ le 1 p 45 → n ≡ (header_of p).flag
  unfolding header_of frame_of
  flag-read e = e

  pub prefix-read : n ≡ le 2 p 46 → n ≡ (header_of p).prefix_len
  unfolding header_of frame_of
  prefix-read e = e

-- ---- what a page that may be read has
module _ (w : ℕ) (p : List ℕ) (n : ℕ) (e : admit_of w p n ≡ Ok tt) where
  pub asked-size : 16384 ≤ length p
  asked-size = (slots-within w p n e (le 2 p 2) refl).0

  pub asked-slots : 8 * (header_of p).count ≤ 16256
  unfolding header_of numbers_of
  asked-slots = (slots-within w p n e (le 2 p 2) refl).1

  pub asked-prefix : (header_of p).prefix_len ≤ 16256
  unfolding header_of
  asked-prefix = prefix_lies w p n e

  pub asked : (16384 ≤ length p) × (8 * (header_of p).count ≤ 16256) × ((header_of p).prefix_len ≤ 16256)
  asked = (asked-size, asked-slots, asked-prefix)
