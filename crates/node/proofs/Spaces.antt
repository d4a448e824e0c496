-- The judgements of the space numbers, of need and of forecast, case by case: what code knows at each answer. Assumes nothing.
use Rattle.std.proofs.Common.{◌≡◌, ap, true, false, List, ℕ, ◌+◌, ◌-◌, ◌≤◌, ◌<◌, eq-eqb, ne_eqb, le-leb, length, Ok, Err}
use borrow.Author.Tests.{lt-leb}
use Rattle.keys.specs.Keys.{common}
use Rattle.keys.proofs.Prefixes.{common-le}
use Rattle.paper.specs.Page.{body_bytes, numbers_of, header_of}
use Rattle.paper.specs.Space.{need, used, space_of, fence_bytes, begin_bytes}
use Rattle.paper.specs.Refusals.{judge}
use Rattle.paper.specs.Calls.{is_width, space_read, need_of, forecast_of}
use Rattle.paper.specs.declared.page.Header.{Header}
use Rattle.paper.specs.declared.refusal.Refusal.TheVariants.{PageLength, Width, KeyLength, HeaderRules, NotFit, Prefix}
use Rattle.node.specs.Header.{numbers_in, rules_of}
use Rattle.node.proofs.Rules.{rules_of_lem, rules_in}

-- ---- the space numbers
pub space-order : (h : Header) → rules_of h ≡ true → h.start ≤ h.end
space-order h e = (rules_in h e).order

pub space-top : (h : Header) → rules_of h ≡ true → h.end ≤ 16256
space-top h e = (rules_in h e).top

numbers_in_lem : (p : List ℕ) (h : Header) → h ≡ header_of p → numbers_in h ≡ numbers_of p
unfolding header_of
numbers_in_lem p h e = ap numbers_in e

-- h is the header that was read
module _ (p : List ℕ) where
  pub space-length : (length p ≡ 16384 → ⊥) → space_read p ≡ Err PageLength
  unfolding space_read judge
  space-length l = rw (ne_eqb (length p) 16384 l)

  pub space-rules : (h : Header) → length p ≡ 16384 → h ≡ header_of p → rules_of h ≡ false → space_read p ≡ Err HeaderRules
  unfolding space_read judge
  space-rules h l e r = rw (eq-eqb (length p) 16384 l, ← rules_of_lem p, ← e, r)

  pub space-over : (h : Header) → length p ≡ 16384 → h ≡ header_of p → rules_of h ≡ true → used (numbers_in h) < h.effective
      → space_read p ≡ Err (NotFit 8)
  unfolding space_read judge
  space-over h l e r k =
      rw (eq-eqb (length p) 16384 l, ← rules_of_lem p, ← e, r, ← numbers_in_lem p h e, lt-leb h.effective (used (numbers_in h)) k)

  pub space-are : (h : Header) → length p ≡ 16384 → h ≡ header_of p → rules_of h ≡ true → h.effective ≤ used (numbers_in h)
      → space_read p ≡ Ok (space_of (numbers_in h))
  unfolding space_read judge
  space-are h l e r k =
      rw (eq-eqb (length p) 16384 l, ← rules_of_lem p, ← e, r, ← numbers_in_lem p h e, le-leb h.effective (used (numbers_in h)) k)

-- ---- need
module _ (w n : ℕ) (k : List ℕ) where
  pub need-width : is_width w ≡ false → need_of w n k ≡ Err Width
  unfolding need_of judge
  need-width h = rw h

  pub need-long : is_width w ≡ true → 65535 < length k → need_of w n k ≡ Err KeyLength
  unfolding need_of judge
  need-long h l = rw (h, lt-leb (length k) 65535 l)

  pub need-short : is_width w ≡ true → length k ≤ 65535 → length k < n → need_of w n k ≡ Err Prefix
  unfolding need_of judge
  need-short h l m = rw (h, le-leb (length k) 65535 l, lt-leb n (length k) m)

  -- b is what was counted of the suffix
  pub need-bytes : (b : ℕ) → is_width w ≡ true → length k ≤ 65535 → n ≤ length k → b ≡ body_bytes 4 (length k - n)
      → need_of w n k ≡ Ok (8 + w + b)
  unfolding need_of judge need
  need-bytes b h l m e = rw (h, le-leb (length k) 65535 l, le-leb n (length k) m, e)

-- ---- forecast
module _ (a b : List ℕ) where
  -- n bytes were found alike
  pub prefix-le : (n : ℕ) → n ≡ common a b → (n ≤ length a) × (n ≤ length b)
  prefix-le n e = rw e (common-le a b)

  pub prefix-lower : (n : ℕ) → n ≡ common a b → n ≤ length a
  prefix-lower n e = (prefix-le n e).0

  pub prefix-upper : (n : ℕ) → n ≡ common a b → n ≤ length b
  prefix-upper n e = (prefix-le n e).1

  pub begin-bytes : (n : ℕ) → n ≡ common a b → fence_bytes n (length a - n) (length b - n) ≡ begin_bytes a b
  unfolding begin_bytes
  begin-bytes n e = rw e

  pub forecast-lower : 65535 < length a → forecast_of a b ≡ Err KeyLength
  unfolding forecast_of judge
  forecast-lower l = rw (lt-leb (length a) 65535 l)

  pub forecast-upper : length a ≤ 65535 → 65535 < length b → forecast_of a b ≡ Err KeyLength
  unfolding forecast_of judge
  forecast-upper l m = rw (le-leb (length a) 65535 l, lt-leb (length b) 65535 m)

  -- x is what was counted of prefix and fences
  pub forecast-are : (n x : ℕ) → length a ≤ 65535 → length b ≤ 65535 → n ≡ common a b → x ≡ fence_bytes n (length a - n) (length b - n)
      → forecast_of a b ≡ Ok (record { prefix_len = n; space = 96 + x })
  unfolding forecast_of judge
  forecast-are n x l m e f = rw (le-leb (length a) 65535 l, le-leb (length b) 65535 m, f, begin-bytes n e, e)

pub ruleset space_numbers = (space-order, space-top, space-length, space-rules, space-over, space-are)

pub ruleset needs = (need-width, need-long, need-short, need-bytes)

pub ruleset forecasts = (prefix-lower, prefix-upper, forecast-lower, forecast-upper, forecast-are)
