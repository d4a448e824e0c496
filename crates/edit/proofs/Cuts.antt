-- A key in two pieces against another key, a slot, a prefix and the fences: what a piece at a time says. Assumes nothing.
use Rattle.std.proofs.Common.{◌≡◌, refl, sym, ap, ◌∙◌, Bool, true, false, List, [], ◌∷◌, ◌++◌, append-nil, ℕ, ◌+◌, ◌-◌, ◌≤◌, min, arith, eqb, length, take, drop, length-take, length-drop, take-append-drop, take_all, Ok, Err}
use native.Mathlib.Decide.{dec_le}
use lib.Seq.{take-append-le, take-append-add}
use Rattle.keys.specs.Choice.{both}
use Rattle.keys.specs.Keys.{begins, same_list}
use Rattle.paper.specs.Page.{prefix_of, frame_of, header_of}
use Rattle.paper.specs.Verdicts.{inside}
use Rattle.paper.specs.Refusals.{judge}
use Rattle.paper.specs.Searches.{probe_suffix}
use Rattle.paper.specs.Calls.{has_prefix}
use Rattle.paper.specs.declared.page.Header.{Header}
use Rattle.paper.specs.declared.refusal.Refusal.TheVariants.{Prefix, OutsideFences}
use Rattle.node.proofs.Spelling.{length-prefix_of}
use Rattle.search.specs.Fence.{inside_by}
use Rattle.search.proofs.Fences.{inside_is}
use Rattle.edit.specs.RunTests.{Fenced, Meeting, standing}
use Rattle.std.specs.declared.cmp.Ordering.{Ordering}
use Rattle.std.specs.Ordering.{is_lt, is_gt, ordering_reverse}
use Rattle.std.specs.declared.cmp.Ordering.TheVariants.{Less, Equal, Greater}

-- ---- an order seen from the other key
pub lt_reverse : (o : Ordering) → is_gt o ≡ is_lt (ordering_reverse o)
lt_reverse Less = refl
lt_reverse Equal = refl
lt_reverse Greater = refl

-- ---- lists in two pieces
same_two : (a b x y : List ℕ) → length a ≡ length x → same_list (a ++ b) (x ++ y) ≡ both (same_list a x) (same_list b y)
unfolding same_list
same_two [] b [] y h = refl
same_two [] b (z ∷ x) y h = absurd (omega arith)
same_two (w ∷ a) b [] y h = absurd (omega arith)
same_two (w ∷ a) b (z ∷ x) y h = rw (same_two a b x y (omega arith)) (three (eqb w z) (same_list a x) (same_list b y))
  where
    three : (r s t : Bool) → both r (both s t) ≡ both (both r s) t
    three true s t = refl
    three false s t = refl

-- the first m bytes, and the rest: c of them are the first piece's
module _ (m : ℕ) (a b : List ℕ) (c : ℕ) (e : c ≡ min m (length a)) where
  take-two : take m (a ++ b) ≡ take c a ++ take (m - c) b
  take-two = go (dec_le m (length a))
    where
      go : Dec (m ≤ length a) → take m (a ++ b) ≡ take c a ++ take (m - c) b
      go (yes h) =
          let f : c ≡ m = omega arith in
          let g : m - m ≡ 0 = omega arith in
          rw (f, g) (take-append-le m a b h ∙ sym (append-nil (take m a)))
      go (no h) =
          let f : c ≡ length a = omega arith in
          let g : m ≡ length a + (m - length a) = omega arith in
          rw (f, take_all (length a) a (omega arith)) (ap (λ (k : ℕ). take k (a ++ b)) g ∙ take-append-add a b (m - length a))

-- ---- the page's prefix by its header
module _ (p : List ℕ) (h : Header) (F : Fenced p h) where
  pub gone-is : (frame_of p).prefix_len ≡ h.prefix_len
  unfolding header_of
  gone-is = ap (λ (g : Header). g.prefix_len) (sym F.header)

  pub whole_is : (frame_of p).prefix ≡ prefix_of p h.prefix_len
  unfolding frame_of
  whole_is = ap (prefix_of p) gone-is

  pub whole_length : (whole : List ℕ) → whole ≡ prefix_of p h.prefix_len → length whole ≡ h.prefix_len
  whole_length whole e = rw e (length-prefix_of p h.prefix_len (omega (arith, F.shown.size)) F.shown.most)

  -- ---- a key k of two pieces P and S, where the page's prefix was found as `whole`
  module _ (P : List ℕ) (c : ℕ) (t : Bool) (M : Meeting p h P c t) (S k : List ℕ) (K : P ++ S ≡ k) (whole : List ℕ) (e : whole ≡ prefix_of p h.prefix_len) where
    -- what is left of the page's prefix for the second piece
    abbrev wanted : List ℕ
    wanted = take (length whole - c) (drop c whole)

    pub cut-within : (c ≤ length whole) × (c ≤ length P)
    cut-within = let l = whole_length whole e in (omega (arith, M.cut), omega (arith, M.cut))

    wanted-is : wanted ≡ drop c whole
    wanted-is = take_all (length whole - c) (drop c whole) (rw length-drop (omega arith))

    wanted-length : length wanted ≡ h.prefix_len - c
    wanted-length = rw (wanted-is, length-drop, whole_length whole e)

    has-two : has_prefix (frame_of p) k ≡ both t (begins S wanted)
    unfolding has_prefix begins
    has-two =
        let l = whole_length whole e in
        let w = cut-within in
        let n : length (take c P) ≡ length (take c whole) = length-take c P ∙ (let z : min c (length P) ≡ min c (length whole) = omega arith in z) ∙ sym (length-take c whole) in
        rw (← K, gone-is, whole_is, ← e, take-two h.prefix_len P S c M.cut)
        (ap (same_list (take c P ++ take (h.prefix_len - c) S)) (sym (take-append-drop c whole))
        ∙ same_two (take c P) (take (h.prefix_len - c) S) (take c whole) (drop c whole) n
        ∙ rw (M.alikeness, ← e, wanted-length, wanted-is))

    pub stands-unlike : t ≡ false → standing p k ≡ Err Prefix
    unfolding standing judge
    stands-unlike f = rw (has-two, f)

    -- it was asked whether the second piece begins with that
    module _ (f : t ≡ true) (b : Bool) (g : b ≡ begins S wanted) where
      has-is : has_prefix (frame_of p) k ≡ b
      has-is = has-two ∙ rw (f, g)

      pub stands-lacks : b ≡ false → standing p k ≡ Err Prefix
      unfolding standing judge
      stands-lacks n = rw (has-is, n)

      -- and then of what is left of both
      module _ (n : b ≡ true) (rest : List ℕ) (r : rest ≡ drop (length whole) (P ++ S)) where
        rest_is : rest ≡ probe_suffix (frame_of p) k
        rest_is = r ∙ rw (whole_length whole e, gone-is, K)

        module _ (i : Bool) (m : i ≡ inside_by p h rest) where
          inside-two : inside (frame_of p) k ≡ i
          inside-two = sym (m ∙ inside_is p k (has-is ∙ n) h rest F.header rest_is)

          pub stands-outside : i ≡ false → standing p k ≡ Err OutsideFences
          unfolding standing judge
          stands-outside l = rw (has-is, n, inside-two, l)

          pub stands-done : i ≡ true → standing p k ≡ Ok tt
          unfolding standing judge
          stands-done l = rw (has-is, n, inside-two, l)
