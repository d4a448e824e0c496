-- A suffix in two pieces a and b, one after the other: both written, both without their first bytes, and their order. Assumes nothing.
use Rattle.std.proofs.Common.{◌≡◌, refl, sym, ap, ◌∙◌, ⊎_elim, List, [], ◌∷◌, ◌++◌, ℕ, ◌+◌, ◌-◌, ◌≤◌, ◌<◌, min, arith, zero-add, length, take, take_all, drop, length-append, length-drop, drop_of_length-le}
use native.Mathlib.Decide.{dec_le}
use lib.Seq.{take-length, drop-append-le, drop-append-add}
use Rattle.std.proofs.lemmas.List.{drop_min}
use Rattle.octets.specs.Bytes.{put}
use Rattle.octets.proofs.Put.{put-append}
use Rattle.keys.specs.Keys.{by_number, order, common}
use Rattle.keys.proofs.Numbers.{alike?, by_number_eq, by_number_ne}
use Rattle.keys.proofs.Prefixes.{common_eq, common_ne, common-le}
use Rattle.paper.specs.Page.{body_bytes}
use Rattle.paper.specs.Edits.{outline}
use Rattle.paper.proofs.Same.{body_bytes_long}
use Rattle.std.specs.declared.cmp.Ordering.{Ordering}

module _ (a b s : List ℕ) (e : a ++ b ≡ s) where
  -- a suffix above four bytes is written, piece after piece
  pub long_room : (n : ℕ) → 4 < length s → body_bytes 4 (length s) ≤ n → length a + length b ≤ n
  long_room n h l = omega (arith, body_bytes_long 4 (length s) h, simp length-append at (ap length e))

  pub both_written : (p : List ℕ) → 4 < length s → put (put p 0 a) (length a) b ≡ put p 0 (outline 4 s)
  both_written p h =
      let all : outline 4 s ≡ s = rw (body_bytes_long 4 (length s) h) (take-length s) in
      rw (all, ← e, put-append, zero-add)

-- two lists without their first m bytes: m of the first, and what is left of m of the second
pub drop-both : (m : ℕ) (a b : List ℕ) → drop (min m (length a)) a ++ drop (min (m - min m (length a)) (length b)) b ≡ drop m (a ++ b)
drop-both m a b = rw (drop_min m a, drop_min (m - min m (length a)) b) (go (dec_le m (length a)))
  where
    go : Dec (m ≤ length a) → drop m a ++ drop (m - min m (length a)) b ≡ drop m (a ++ b)
    go (yes h) = let e : m - min m (length a) ≡ 0 = omega arith in rw e (sym (drop-append-le m a b h))
    go (no h) =
        let e : m - min m (length a) ≡ m - length a = omega arith in
        let f : length a + (m - length a) ≡ m = omega arith in
        rw (e, drop_of_length-le a {i = m} (omega arith)) (sym (drop-append-add a b (m - length a)) ∙ ap (λ k. drop k (a ++ b)) f)

-- ---- the order of two pieces a and b and a key x
-- the first piece decides where it is not the front of x
order_lead : (a b x : List ℕ) → common a x < length a → order (a ++ b) x ≡ order a x
unfolding order common
order_lead [] b x h = absurd (omega arith)
order_lead (y ∷ a) b [] h = refl
order_lead (y ∷ a) b (z ∷ x) h =
    let next = order_lead a b x in
    ⊎_elim (λ e. ap (by_number y z) (next (omega (arith, common_eq y z a x e)))) (λ e. by_number_ne y z (order (a ++ b) x) (order a x) e) (alike? y z)

-- else the second one
order-rest : (a b x : List ℕ) → length a ≤ common a x → order (a ++ b) x ≡ order b (drop (length a) x)
unfolding order common
order-rest [] b x h = refl
order-rest (y ∷ a) b [] h = absurd (omega arith)
order-rest (y ∷ a) b (z ∷ x) h =
    let next = order-rest a b x in
    ⊎_elim (λ e. by_number_eq y z (order (a ++ b) x) e ∙ next (omega (arith, common_eq y z a x e))) (λ e. absurd (omega (arith, common_ne y z a x e))) (alike? y z)

-- n is what the first piece and x share, o what was found
module _ (a b x : List ℕ) (n : ℕ) (e : n ≡ common a x) (o : Ordering) where
  pub two-lead : n < length a → o ≡ order a x → o ≡ order (a ++ b) x
  two-lead h f = f ∙ sym (order_lead a b x (omega (arith, e)))

  pub two-rest : length a ≤ n → o ≡ order b (take (length x - n) (drop n x)) → o ≡ order (a ++ b) x
  two-rest h f =
      let l = common-le a x in
      let k : n ≡ length a = omega (arith, e) in
      f
      ∙ ap (order b) (take_all (length x - n) (drop n x) (rw length-drop (omega arith)))
      ∙ ap (λ (i : ℕ). order b (drop i x)) k
      ∙ sym (order-rest a b x (omega (arith, e)))

pub two_within : (a x : List ℕ) (n : ℕ) → n ≡ common a x → n ≤ length x
two_within a x n e = omega (arith, e, (common-le a x).1)

pub ruleset by_pieces = (two-lead, two-rest, two_within)
