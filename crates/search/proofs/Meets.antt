-- How a slot meets a probe, case by case: what code knows at each answer. Assumes nothing.
use Rattle.std.proofs.Common.{◌≡◌, refl, ◌∙◌, Bool, true, false, List, ℕ, ◌+◌, ◌-◌, ◌≤◌, ◌<◌, min, arith, le-leb, lt-ltb, le-ltb, leb, ltb, length, take, drop, Ok, Err, Some, None, Option}
use native.Mathlib.Decide.{dec_le}
use borrow.Author.Tests.{lt-leb}
use Rattle.octets.specs.Bytes.{part}
use Rattle.keys.specs.Choice.{pick}
use Rattle.keys.specs.Keys.{by_number, order, head_of}
use Rattle.paper.specs.Page.{slot_at, place, slot_of, body_bytes}
use Rattle.paper.specs.Verdicts.{slot_payload, within}
use Rattle.paper.specs.Searches.{slot_meets}
use Rattle.paper.specs.Refusals.{judge}
use Rattle.paper.specs.declared.page.Slot.{Slot}
use Rattle.paper.specs.declared.refusal.Refusal.{Refusal}
use Rattle.paper.specs.declared.refusal.Refusal.TheVariants.{SlotNumber, Payload}
use Rattle.paper.proofs.Fit.{within_fact}
use Rattle.node.specs.Admit.{slot_read_of}
use Rattle.node.proofs.Admits.{slot_is, slot-judge, slot-refused}
use Rattle.node.proofs.Spelling.{suffix-room}
use Rattle.search.specs.Slot.{rank_of, met_at, met_alone}
use Rattle.std.specs.declared.cmp.Ordering.{Ordering}
use Rattle.std.specs.declared.cmp.Ordering.TheVariants.{Less, Equal, Greater}

-- ---- heads and lengths
module _ (s : Slot) (head n : ℕ) where
  pub rank_below : s.head < head → rank_of s head n ≡ Some Less
  unfolding rank_of
  rank_below h = rw (lt-ltb s.head head h)

  pub rank-above : head < s.head → rank_of s head n ≡ Some Greater
  unfolding rank_of
  rank-above h = rw (le-ltb s.head head (omega arith), lt-ltb head s.head h)

  pub rank-lengths : (o : Ordering) → head ≤ s.head → s.head ≤ head → min s.len n ≤ 4 → o ≡ by_number s.len n Equal → rank_of s head n ≡ Some o
  unfolding rank_of
  rank-lengths o h k m e = rw (le-ltb s.head head h, le-ltb head s.head k, le-leb (min s.len n) 4 m, e)

  pub rank-open : head ≤ s.head → s.head ≤ head → 4 < s.len → 4 < n → rank_of s head n ≡ None
  unfolding rank_of
  rank-open h k l m = rw (le-ltb s.head head h, le-ltb head s.head k, lt-leb (min s.len n) 4 (omega arith))

-- what is told is the order; what is open is that of the bytes b
abbrev by_rank : Option Ordering → Ordering → Ordering
by_rank (Some o) b = o
by_rank None b = b

rank_cases : (t u v : Bool) (o b : Ordering) → pick t Less (pick u Greater (pick v o b)) ≡ by_rank (pick t (Some Less) (pick u (Some Greater) (pick v (Some o) None))) b
rank_cases true u v o b = refl
rank_cases false true v o b = refl
rank_cases false false true o b = refl
rank_cases false false false o b = refl

ranked : (p : List ℕ) (s : Slot) (x : List ℕ) → slot_meets p s x ≡ by_rank (rank_of s (head_of x) (length x)) (order (part s.len p (96 + s.offset)) x)
unfolding slot_meets rank_of by_number
ranked p s x =
    rank_cases (ltb s.head (head_of x)) (ltb (head_of x) s.head) (leb (min s.len (length x)) 4) (by_number s.len (length x) Equal)
    (order (part s.len p (96 + s.offset)) x)

module _ (p : List ℕ) (s : Slot) (x : List ℕ) (head : ℕ) (e : head ≡ head_of x) where
  pub meets-told : (o : Ordering) → rank_of s head (length x) ≡ Some o → slot_meets p s x ≡ o
  meets-told o f = let g : rank_of s (head_of x) (length x) ≡ Some o = rw (← e) f in ranked p s x ∙ rw g

  -- l is the slot's suffix
  pub meets-open : (l : List ℕ) → rank_of s head (length x) ≡ None → l ≡ part s.len p (96 + s.offset) → slot_meets p s x ≡ order l x
  meets-open l f g = let q : rank_of s (head_of x) (length x) ≡ None = rw (← e) f in ranked p s x ∙ rw (q, ← g)

-- where the bytes decide, the suffix is long, and stands on a page of m bytes
pub open_room : (s : Slot) (head n m : ℕ) → rank_of s head n ≡ None → 96 + s.offset + body_bytes 4 s.len ≤ m → 96 + s.offset + s.len ≤ m
unfolding rank_of
open_room s head n m e h = suffix-room s.len (96 + s.offset) m (long (dec_le s.len 4)) h
  where
    told : (o : Ordering) → Some o ≡ None → ⊥
    told o e = let z : ◌≡◌ {A = ℕ} 0 1 = cc in omega arith

    shut : (t u : Bool) → pick t (Some Less) (pick u (Some Greater) (Some (by_number s.len n Equal))) ≡ None → ⊥
    shut true u e = told Less e
    shut false true e = told Greater e
    shut false false e = told (by_number s.len n Equal) e

    long : Dec (s.len ≤ 4) → 4 < s.len
    long (no l) = omega arith
    long (yes l) = absurd (shut (ltb s.head head) (ltb head s.head) (rw (le-leb (min s.len n) 4 (omega arith)) at e))

-- a part as code cuts it
pub part_cut : (p : List ℕ) (at n : ℕ) → take (at + n - at) (drop at p) ≡ part n p at
unfolding part
part_cut p at n = let e : at + n - at ≡ n = omega arith in rw e

-- ---- a slot that is visited; s is what was read at its place
module _ (w : ℕ) (p : List ℕ) (end : ℕ) (x : List ℕ) (i : ℕ) (s : Slot) (e : s ≡ slot_at p (place i)) where
  read_is : s ≡ slot_of p i
  unfolding slot_of
  read_is = e

  pub met-out : within end (slot_payload w s) ≡ false → met_at w p end x i ≡ Err Payload
  unfolding met_at
  met-out h = rw (← read_is, h)

  pub met-in : within end (slot_payload w s) ≡ true → met_at w p end x i ≡ Ok (slot_meets p s x)
  unfolding met_at
  met-in h = rw (← read_is, h)

-- its payload lies within the page, of m bytes
pub met_room : (w m end : ℕ) (s : Slot) → 16384 ≤ m → within end (slot_payload w s) ≡ true → 96 + s.offset + body_bytes 4 s.len ≤ m
met_room w m end s h e = let l = (within_fact end (slot_payload w s) e).1 in omega arith

-- ---- a slot that is visited alone
module _ (w : ℕ) (p : List ℕ) (count end i : ℕ) where
  slot-within : (s : Slot) → slot_read_of w p count end i ≡ Ok s → within end (slot_payload w (slot_of p i)) ≡ true
  unfolding judge
  slot-within s e = go (ltb i count) (within end (slot_payload w (slot_of p i))) (slot-judge w p count end i s e true (λ q. false))
    where
      go : (t u : Bool) → pick t (pick u true false) false ≡ true → u ≡ true
      go true true e = refl
      go true false e = e
      go false true e = refl
      go false false e = e

  -- its payload lies within the page, of m bytes
  pub alone-room : (m : ℕ) (s : Slot) → 16384 ≤ m → slot_read_of w p count end i ≡ Ok s → 96 + s.offset + body_bytes 4 s.len ≤ m
  alone-room m s h e = met_room w m end s h (rw (slot_is w p count end i s e) (slot-within s e))

module _ (w : ℕ) (p : List ℕ) (count end : ℕ) (x : List ℕ) (i : ℕ) where
  pub alone-refused : (q : Refusal) → slot_read_of w p count end i ≡ Err q → met_alone w p count end x i ≡ Err q
  unfolding met_alone
  alone-refused q e = slot-refused w p count end i q e (Ok (slot_meets p (slot_of p i) x)) Err

  pub alone-met : (s : Slot) → slot_read_of w p count end i ≡ Ok s → met_alone w p count end x i ≡ Ok (slot_meets p s x)
  unfolding met_alone
  alone-met s e = slot-judge w p count end i s e (Ok (slot_meets p (slot_of p i) x)) Err ∙ rw (slot_is w p count end i s e)

  -- a slot that is not there
  pub alone-gone : count ≤ i → met_alone w p count end x i ≡ Err SlotNumber
  unfolding met_alone judge
  alone-gone h = rw (le-ltb i count h)

  -- a slot that is there meets as in a search
  pub alone-there : i < count → met_alone w p count end x i ≡ met_at w p end x i
  unfolding met_alone met_at judge
  alone-there h = rw (lt-ltb i count h)

pub ruleset ranks = (rank_below, rank-above, rank-lengths, rank-open)

pub ruleset meeting = (meets-told, meets-open, open_room)

pub ruleset meeting_at = (met-out, met-in, met_room)

pub ruleset meeting_alone = (alone-refused, alone-met, alone-room)
