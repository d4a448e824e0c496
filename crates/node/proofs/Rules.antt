-- The header rules as code tests them: lengths that are long are counted whole, and a sum stands for a difference. Assumes nothing.
use Rattle.std.proofs.Common.{◌≡◌, refl, sym, ◌∙◌, true, ◌&&◌, ℕ, ◌+◌, ◌-◌, ◌≤◌, ◌<◌, arith, le-leb, leb, List}
use native.Mathlib.Decide.{dec_le}
use borrow.Author.Tests.{lt-leb}
use Rattle.keys.specs.Choice.{pick}
use Rattle.paper.specs.Page.{frame_of, numbers_of, header_of}
use Rattle.paper.specs.Verdicts.{within, fence_piece, long_within, header_rules}
use Rattle.paper.specs.declared.page.Slot.{Slot}
use Rattle.paper.specs.declared.page.Header.{Header}
use Rattle.paper.proofs.Same.{body_bytes_long}
use Rattle.paper.proofs.Fit.{Rules, rules}
use Rattle.node.specs.Header.{frame_in, numbers_in, rules_of, prefix_held}

-- a test of a sum or a difference, whichever way it comes out
leb_same : (a b c d : ℕ) → (a ≤ b → c ≤ d) → (c ≤ d → a ≤ b) → leb a b ≡ leb c d
leb_same a b c d f g =
    elim (dec_le a b) [ yes h ↦ le-leb a b h ∙ sym (le-leb c d (f h)) | no h ↦ lt-leb a b (omega arith) ∙ sym (lt-leb c d (above (dec_le c d) h)) ]
  where
    above : Dec (c ≤ d) → (a ≤ b → ⊥) → d < c
    above (yes k) h = absurd (h (g k))
    above (no k) h = omega arith

-- ---- a fence
pub fence_short : (e : ℕ) (s : Slot) → s.len ≤ 4 → long_within e s ≡ true
unfolding long_within
fence_short e s h = rw (le-leb s.len 4 h)

pub fence_long : (e : ℕ) (s : Slot) → 4 < s.len → long_within e s ≡ leb e s.offset && leb (s.offset + s.len) 16256
unfolding long_within within fence_piece
fence_long e s h = rw (lt-leb s.len 4 h, body_bytes_long 4 s.len h)

-- ---- the prefix
pub prefix-inline : (e n : ℕ) → n ≤ 16 → prefix_held e n ≡ true
unfolding prefix_held
prefix-inline e n h = rw (le-leb n 16256 (omega arith), le-leb n 16 h)

pub prefix_long : (e n : ℕ) → 16 < n → prefix_held e n ≡ leb (e + n) 16256
unfolding prefix_held
prefix_long e n h = go (dec_le n 16256)
  where
    go : Dec (n ≤ 16256) → leb n 16256 && pick (leb n 16) true (leb e (16256 - n)) ≡ leb (e + n) 16256
    go (yes k) = rw (le-leb n 16256 k, lt-leb n 16 h) (leb_same e (16256 - n) (e + n) 16256 (λ l. omega arith) (λ l. omega arith))
    go (no k) = rw (lt-leb n 16256 (omega arith), lt-leb (e + n) 16256 (omega arith))

-- ---- the rules of a page are those of its header
pub rules_of_lem : (p : List ℕ) → rules_of (header_of p) ≡ header_rules (frame_of p) (numbers_of p)
unfolding rules_of header_of header_rules
rules_of_lem p = refl

-- ---- the rules of a header as facts
pub rules_in : (h : Header) → rules_of h ≡ true → Rules (frame_in h) (numbers_in h)
unfolding rules_of
rules_in h e = rules (frame_in h) (numbers_in h) e

pub ruleset fences = (fence_short, fence_long)

pub ruleset prefixes = (prefix-inline, prefix_long)
