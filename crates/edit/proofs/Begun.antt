-- Begin as code does it: the order of the fences, the page of its three steps, and the call's ways out. Assumes nothing.
use Rattle.std.proofs.Common.{◌≡◌, refl, ◌∙◌, true, false, List, ℕ, ◌+◌, ◌-◌, ◌≤◌, ◌<◌, arith, eq-eqb, ne_eqb, le-leb, length, take, drop, length-drop, length-take-le, Ok, Err}
use borrow.Author.Tests.{lt-leb}
use Rattle.octets.specs.Bytes.{put}
use Rattle.keys.specs.Keys.{common}
use Rattle.paper.specs.Lists.{less}
use Rattle.paper.specs.Space.{fence_bytes, begin_bytes}
use Rattle.paper.specs.Edits.{put_all, Begin, begin_prefix, begin_lower, begin_upper, upper_start, fences_placed, begin_fields, inlined, begun}
use Rattle.paper.specs.Refusals.{judge}
use Rattle.paper.specs.Calls.{begin_checks, begin_of, begin_page}
use Rattle.paper.specs.declared.page.Header.{Header}
use Rattle.paper.specs.declared.refusal.Refusal.TheVariants.{PageLength, KeyLength, FenceOrder, NoRoom}
use Rattle.paper.proofs.Beginning.{length-beginPrefix, begin-bytes}
use Rattle.node.proofs.Spaces.{begin-bytes as counted-bytes}
use Rattle.edit.specs.Begins.{ordered, runs_placed, fences_of, flag_number, begin_header, slot_fields, front_fields, tail_fields, header_fields}
use Rattle.edit.specs.declared.fences.Fences.{Fences}
use Rattle.edit.proofs.BegunRuns.{rest_is}

-- ---- the order of the fences
module _ (lower upper : List ℕ) where
  pub ordered-open : length upper ≡ 0 → ordered lower upper ≡ true
  unfolding ordered
  ordered-open e = rw (eq-eqb (length upper) 0 e)

  pub ordered-by : (length upper ≡ 0 → ⊥) → ordered lower upper ≡ less lower upper
  unfolding ordered
  ordered-by f = rw (ne_eqb (length upper) 0 f)

pub ruleset by_order = (ordered-open, ordered-by)

-- ---- what is written
module _ (b : Begin) (n : ℕ) (e : n ≡ common b.lower b.upper) (room : fence_bytes n (length b.lower - n) (length b.upper - n) ≤ 16256) where
  -- "effective = 96 + those body bytes", which are all between the end and the body's end
  effective_is : 16352 - upper_start b ≡ 96 + begin_bytes b.lower b.upper
  unfolding fence_bytes
  effective_is =
      let most = rw (counted-bytes b.lower b.upper n e) at room in
      omega (arith, most, begin-bytes b)

  fields-are : header_fields (begin_header b.height b.timestamp b.lower_value b.flag n (fences_of (begin_prefix b) (begin_lower b) (begin_upper b))) ≡ begin_fields b
  unfolding header_fields front_fields slot_fields tail_fields begin_header fences_of flag_number begin_fields
  fields-are = rw (effective_is, e, length-beginPrefix b)

  abbrev suffix : List ℕ → List ℕ
  suffix k = take (length k - n) (drop n k)

  lower-is : suffix b.lower ≡ begin_lower b
  lower-is = rw (rest_is, e)

  upper_is : suffix b.upper ≡ begin_upper b
  upper_is = rw (rest_is, e)

  -- q₁ is the page with its runs, q₂ with its header, q₃ with its inline prefix
  pub begun-is : (p q₁ q₂ q₃ : List ℕ) (f : Fences) (h : Header)
      → (f ≡ fences_of (take n b.lower) (suffix b.lower) (suffix b.upper)) × (q₁ ≡ runs_placed p (take n b.lower) (suffix b.lower) (suffix b.upper))
      → h ≡ begin_header b.height b.timestamp b.lower_value b.flag n f → q₂ ≡ put_all q₁ (header_fields h) → q₃ ≡ put q₂ 48 (inlined (take n b.lower))
      → q₃ ≡ begun p b
  unfolding begun fences_placed runs_placed
  begun-is p q₁ q₂ q₃ f h F H Q R =
      let first : take n b.lower ≡ begin_prefix b = rw e in
      rw (R, Q, H, F.1, F.0, lower-is, upper_is, first, fields-are)

-- ---- what the three steps ask for
-- both suffixes and the prefix, as they are cut
pub cut-room : (lower upper : List ℕ) (n : ℕ) → n ≤ length lower → length lower ≤ 65535 → length upper ≤ 65535
    → fence_bytes n (length lower - n) (length upper - n) ≤ 16256
    → (length (take (length lower - n) (drop n lower)) ≤ 65535)
    × (length (take (length upper - n) (drop n upper)) ≤ 65535)
    × (fence_bytes (length (take n lower)) (length (take (length lower - n) (drop n lower))) (length (take (length upper - n) (drop n upper))) ≤ 16256)
cut-room lower upper n h l u room =
    rw (length-take-le n lower h, rest_is lower n, rest_is upper n, length-drop n lower, length-drop n upper) (omega arith, omega arith, room)

pub end-most : (f : Fences) (prefix lower upper : List ℕ) → f ≡ fences_of prefix lower upper → f.end ≤ 16256
unfolding fences_of
end-most f prefix lower upper e = rw e (omega arith)

-- ---- the call's ways out
module _ (p : List ℕ) (b : Begin) where
  pub begin-size : (length p ≡ 16384 → ⊥) → (Err PageLength ≡ begin_of p b) × (p ≡ begin_page p b)
  unfolding begin_of begin_page begin_checks judge
  begin-size s = rw (ne_eqb (length p) 16384 s) (refl, refl)

  module _ (s : length p ≡ 16384) where
    pub begin-lower : 65535 < length b.lower → (Err KeyLength ≡ begin_of p b) × (p ≡ begin_page p b)
    unfolding begin_of begin_page begin_checks judge
    begin-lower l = rw (eq-eqb (length p) 16384 s, lt-leb (length b.lower) 65535 l) (refl, refl)

    module _ (l : length b.lower ≤ 65535) where
      pub begin-upper : 65535 < length b.upper → (Err KeyLength ≡ begin_of p b) × (p ≡ begin_page p b)
      unfolding begin_of begin_page begin_checks judge
      begin-upper u = rw (eq-eqb (length p) 16384 s, le-leb (length b.lower) 65535 l, lt-leb (length b.upper) 65535 u) (refl, refl)

      module _ (u : length b.upper ≤ 65535) where
        pub begin-order : ordered b.lower b.upper ≡ false → (Err FenceOrder ≡ begin_of p b) × (p ≡ begin_page p b)
        unfolding begin_of begin_page begin_checks judge ordered
        begin-order o =
            rw (eq-eqb (length p) 16384 s, le-leb (length b.lower) 65535 l, le-leb (length b.upper) 65535 u, o) (refl, refl)

        -- n bytes are shared, and x is what was counted of prefix and fences
        module _ (o : ordered b.lower b.upper ≡ true) (n x : ℕ) (e : n ≡ common b.lower b.upper)
            (c : x ≡ fence_bytes n (length b.lower - n) (length b.upper - n)) where
          counted : x ≡ begin_bytes b.lower b.upper
          counted = c ∙ counted-bytes b.lower b.upper n e

          pub begin-full : 16256 < x → (Err NoRoom ≡ begin_of p b) × (p ≡ begin_page p b)
          unfolding begin_of begin_page begin_checks judge ordered
          begin-full r =
              rw (eq-eqb (length p) 16384 s, le-leb (length b.lower) 65535 l, le-leb (length b.upper) 65535 u, o, ← counted, lt-leb x 16256 r) (refl, refl)

          pub begin-done : x ≤ 16256 → (q : List ℕ) → q ≡ begun p b → (Ok tt ≡ begin_of p b) × (q ≡ begin_page p b)
          unfolding begin_of begin_page begin_checks judge ordered
          begin-done r q k =
              rw (eq-eqb (length p) 16384 s, le-leb (length b.lower) 65535 l, le-leb (length b.upper) 65535 u, o, ← counted, le-leb x 16256 r) (refl, k)
