-- A suffix against the fences, case by case; and on a page with that header, for a key that has the prefix, it is the paper's `inside`, since
-- keys with the same prefix are ordered by their suffixes. Assumes nothing.
use Rattle.std.proofs.Common.{◌≡◌, refl, sym, ap, ◌∙◌, Bool, true, false, List, [], ◌∷◌, ◌++◌, ℕ, eq-eqb, ne_eqb, take, take-append-drop}
use Rattle.keys.specs.Keys.{order}
use Rattle.keys.proofs.Orders.{order-append, same_list_eq}
use Rattle.paper.specs.Lists.{less}
use Rattle.paper.specs.Page.{slot_at, suffix_of, frame_of, header_of}
use Rattle.paper.specs.Verdicts.{upper_empty, inside}
use Rattle.paper.specs.Searches.{probe_suffix}
use Rattle.paper.specs.Calls.{has_prefix}
use Rattle.paper.specs.declared.page.Slot.{Slot}
use Rattle.paper.specs.declared.page.Header.{Header}
use Rattle.search.specs.Fence.{inside_by}
use Rattle.std.specs.Ordering.{is_lt}

-- ---- a fence
-- no key is below the empty one
less_empty : (x : List ℕ) → false ≡ less x []
unfolding less order
less_empty [] = refl
less_empty (a ∷ x) = refl

pub below_empty : (p x : List ℕ) (s : Slot) → s.len ≡ 0 → false ≡ less x (suffix_of p s)
unfolding suffix_of
below_empty p x s e = rw e (less_empty x)

pub ruleset empty_fence = (below_empty)

-- ---- both fences, as they were read
module _ (p : List ℕ) (s : Slot) where
  pub lower-read : s ≡ slot_at p 16 → s ≡ (header_of p).lower
  unfolding header_of frame_of
  lower-read e = e

  pub upper-read : s ≡ slot_at p 32 → s ≡ (header_of p).upper
  unfolding header_of frame_of
  upper-read e = e

-- a and b are what was found of the lower and the upper one
module _ (p : List ℕ) (h : Header) (x : List ℕ) (a : Bool) (e : a ≡ less x (suffix_of p h.lower)) where
  pub inside-below : a ≡ true → inside_by p h x ≡ false
  unfolding inside_by
  inside-below f = rw (← e, f)

  pub inside-free : a ≡ false → h.upper.len ≡ 0 → inside_by p h x ≡ true
  unfolding inside_by
  inside-free f g = rw (← e, f, eq-eqb h.upper.len 0 g)

  pub inside-upper : (b : Bool) → a ≡ false → (h.upper.len ≡ 0 → ⊥) → b ≡ less x (suffix_of p h.upper) → inside_by p h x ≡ b
  unfolding inside_by
  inside-upper b f g k = rw (← e, f, ne_eqb h.upper.len 0 g, ← k)

-- ---- on a page with that header
module _ (p k : List ℕ) (held : has_prefix (frame_of p) k ≡ true) where
  -- the key is the prefix and its suffix
  parted : k ≡ (frame_of p).prefix ++ probe_suffix (frame_of p) k
  unfolding has_prefix
  parted = sym (take-append-drop (frame_of p).prefix_len k) ∙ ap (λ (a : List ℕ). a ++ probe_suffix (frame_of p) k) (same_list_eq (take (frame_of p).prefix_len k) (frame_of p).prefix held)

  less-suffix : (x : List ℕ) → less (probe_suffix (frame_of p) k) x ≡ less k ((frame_of p).prefix ++ x)
  unfolding less
  less-suffix x =
      ap is_lt
      (sym (order-append (frame_of p).prefix (probe_suffix (frame_of p) k) x) ∙ ap (λ (a : List ℕ). order a ((frame_of p).prefix ++ x)) (sym parted))

  of-page : inside_by p (header_of p) (probe_suffix (frame_of p) k) ≡ inside (frame_of p) k
  unfolding inside_by inside upper_empty header_of
  of-page = rw (less-suffix (suffix_of p (frame_of p).lower), less-suffix (suffix_of p (frame_of p).upper), lower-is, upper_is)
    where
      lower-is : suffix_of p (frame_of p).lower ≡ (frame_of p).lower_suffix
      lower-is = unfold frame_of in refl

      upper_is : suffix_of p (frame_of p).upper ≡ (frame_of p).upper_suffix
      upper_is = unfold frame_of in refl

  -- x is the key's suffix
  pub inside_is : (h : Header) (x : List ℕ) → h ≡ header_of p → x ≡ probe_suffix (frame_of p) k → inside_by p h x ≡ inside (frame_of p) k
  inside_is h x e d = rw (e, d) of-page

pub ruleset insides = (lower-read, upper-read, inside-below, inside-free, inside-upper)
