-- Hints as bytes: the places of eight heads as code spells them, and what a turn of the loop that writes them leaves to put. Assumes nothing.
use Rattle.std.proofs.Common.{◌≡◌, sym, ◌∙◌, List, ℕ, zero, suc, ◌+◌, ◌*◌, ◌≤◌, ◌<◌, add-one, arith, length, get_or, drop, drop_of_length-le, drop-cons, ext_get_or}
use native.Mathlib.Decide.{dec_lt}
use denote.Param.Members.{Mut, Called}
use Rattle.std.specs.Array.{IsFromFnResult, IsFromFnResultFrom}
use Rattle.paper.proofs.Lists.{length-tab, getD-tab}
use Rattle.octets.specs.Bytes.{le, bytes, put}
use Rattle.octets.proofs.Put.{put-append}
use Rattle.octets.proofs.Little.{length-bytes}
use Rattle.paper.specs.Lists.{tab}
use Rattle.paper.specs.Page.{place, slot_of}
use Rattle.paper.specs.Hints.{flat}

-- ---- heads
-- the head of a slot begins at its fifth byte
pub slot-head : (p : List ℕ) (i : ℕ) → le 4 p (100 + 8 * i) ≡ (slot_of p i).head
unfolding slot_of
slot-head p i = let e : place i + 4 ≡ 100 + 8 * i = omega arith in rw e

pub ruleset heads = (slot-head)

-- ---- an array made by a function, place by place, is a table of h, where P is what the function keeps to itself
module _ {F : Type 0} (g : Mut F (ℕ × Unit {0}) ℕ) (P : F → Type 0) (h : ℕ → ℕ)
    (says : (p q : F) (i y : ℕ) → P p → Called g p (i, tt) y q → (y ≡ h i) × P q) where
  made_at : (ys : List ℕ) (n i : ℕ) (f : F) → P f → IsFromFnResultFrom g f ys i n → (k : ℕ) → i ≤ k → k < i + n → get_or ys k 0 ≡ h k
  made_at ys zero i f s m k a b = absurd (omega arith)
  made_at ys (suc n) i f s m k a b = go (dec_lt i k) (made_at ys n (i + 1) m.0 call.1 m.4 k)
    where
      call : (m.1 ≡ h i) × P m.0
      call = says f m.0 i m.1 s m.3

      go : Dec (i < k) → (i + 1 ≤ k → k < i + 1 + n → get_or ys k 0 ≡ h k) → get_or ys k 0 ≡ h k
      go (yes l) later = later (omega arith) (omega arith)
      go (no l) later = let e : k ≡ i = omega arith in rw e (m.2.1 0 ∙ call.0)

  pub tabled : (f : F) (ys : List ℕ) (n : ℕ) → P f → IsFromFnResult g f ys n → ys ≡ tab n h
  tabled f ys n s made =
      ext_get_or 0 ys (tab n h) (made.long ∙ sym (length-tab n h))
      (λ i l. let k : i < n = omega (arith, made.long) in made_at ys n 0 f s made.each i (omega arith) (omega arith) ∙ sym (getD-tab n h i 0 k))

-- ---- numbers of four bytes, written from the first: the rest of hs from place i on
module _ (p : List ℕ) (o : ℕ) (hs : List ℕ) (i : ℕ) where
  pub flat-turn : i < length hs → put p (o + 4 * i) (flat (drop i hs)) ≡ put (put p (o + 4 * i) (bytes 4 (get_or hs i 0))) (o + 4 * (i + 1)) (flat (drop (i + 1) hs))
  unfolding flat
  flat-turn h =
      let e : o + 4 * (i + 1) ≡ o + 4 * i + 4 = omega arith in
      rw (e, add-one i, drop-cons hs i 0 h, flat, put-append, length-bytes)

  pub flat-done : length hs ≤ i → put p (o + 4 * i) (flat (drop i hs)) ≡ p
  unfolding flat put
  flat-done h = rw (drop_of_length-le hs h)

pub ruleset writing = (flat-turn, flat-done)
