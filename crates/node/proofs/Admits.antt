-- The judgements that every read begins with, case by case: what code knows at each answer, and what an answer says of the page. Assumes nothing.
use Rattle.std.proofs.Common.{◌≡◌, refl, true, false, List, ℕ, ◌*◌, ◌≤◌, ◌<◌, arith, eqb-true, leb-true, le-ltb, lt-ltb, leb, eqb, length, Ok, Err}
use Rattle.octets.specs.Bytes.{le}
use Rattle.paper.specs.Page.{slot_at, place, slot_of, frame_of, numbers_of, header_of}
use Rattle.paper.specs.Verdicts.{slot_payload, within, header_rules}
use Rattle.paper.specs.Refusals.{judge}
use Rattle.paper.specs.Calls.{is_width}
use Rattle.paper.specs.declared.page.Slot.{Slot}
use Rattle.paper.specs.declared.refusal.Refusal.{Refusal}
use Rattle.paper.specs.declared.refusal.Refusal.TheVariants.{SlotNumber, Payload}
use Rattle.paper.specs.Lists.{all}
use Rattle.paper.proofs.Lists.{both_parts}
use Rattle.paper.proofs.Fit.{Rules, rules}
use Rattle.paper.proofs.Holding.{Hold, judge_hold, answer_holds, done_holds, refused-judge}
use Rattle.node.proofs.Rules.{rules_of_lem}
use Rattle.node.specs.Admit.{admit_checks, admit_of, slot_checks, slot_read_of}

-- ---- a page that is admitted
-- what is known of it
pub record Admission (w : ℕ) (p : List ℕ) (n : ℕ) : Type 0 where
  pub size : length p ≡ 16384
  pub width : is_width w ≡ true
  pub key_length : n ≤ 65535
  pub rules : Rules (frame_of p) (numbers_of p)

module _ (w : ℕ) (p : List ℕ) (n : ℕ) where
  pub admitted : admit_of w p n ≡ Ok tt → Admission w p n
  unfolding admit_of all
  admitted e =
      let a = both_parts (eqb (length p) 16384) _ (done_holds (admit_checks w p n) e) in
      let b = both_parts (is_width w) _ a.1 in
      let c = both_parts (leb n 65535) _ b.1 in
      let d = both_parts (header_rules (frame_of p) (numbers_of p)) _ c.1 in
      record {
        size = eqb-true (length p) 16384 a.0;
        width = b.0;
        key_length = leb-true n 65535 c.0;
        rules = rules (frame_of p) (numbers_of p) d.0;
      }

  -- all its slots lie within it, by the number of them that was read
  pub slots-within : admit_of w p n ≡ Ok tt → (count : ℕ) → count ≡ le 2 p 2 → (16384 ≤ length p) × (8 * count ≤ 16256)
  unfolding numbers_of
  slots-within e count k =
      let A = admitted e in
      let R = A.rules in
      (omega (arith, A.size), rw k (omega (arith, R.start, R.order, R.top)))

  pub admitted-size : admit_of w p n ≡ Ok tt → 16384 ≤ length p
  admitted-size e = (slots-within e (le 2 p 2) refl).0

  pub admitted-slots : admit_of w p n ≡ Ok tt → (count : ℕ) → count ≡ le 2 p 2 → 8 * count ≤ 16256
  admitted-slots e count k = (slots-within e count k).1

  -- and so does its prefix
  pub prefix_lies : admit_of w p n ≡ Ok tt → (header_of p).prefix_len ≤ 16256
  unfolding header_of
  prefix_lies e = (admitted e).rules.prefix_most

  -- a call with these tests goes on
  pub admitted-judge : admit_of w p n ≡ Ok tt → {A : Type 0} (a : A) (r : Refusal → A) → judge (admit_checks w p n) a r ≡ a
  unfolding admit_of
  admitted-judge e a r = judge_hold (admit_checks w p n) a r (done_holds (admit_checks w p n) e)

  -- or is refused alike
  pub refused-admit : (q : Refusal) → admit_of w p n ≡ Err q → {A : Type 0} (a : A) (r : Refusal → A) → judge (admit_checks w p n) a r ≡ r q
  unfolding admit_of
  refused-admit q e a r = refused-judge (admit_checks w p n) tt q e a r

-- ---- a slot that is visited
module _ (w : ℕ) (p : List ℕ) (count end i : ℕ) where
  pub slot-none : count ≤ i → slot_read_of w p count end i ≡ Err SlotNumber
  unfolding slot_read_of judge
  slot-none h = rw (le-ltb i count h)

  read_is : (s : Slot) → s ≡ slot_at p (place i) → s ≡ slot_of p i
  unfolding slot_of
  read_is s e = e

  -- s is what was read at its place
  pub slot-out : (s : Slot) → i < count → s ≡ slot_at p (place i) → within end (slot_payload w s) ≡ false → slot_read_of w p count end i ≡ Err Payload
  unfolding slot_read_of judge
  slot-out s h e f = rw (lt-ltb i count h, ← read_is s e, f)

  pub slot-in : (s : Slot) → i < count → s ≡ slot_at p (place i) → within end (slot_payload w s) ≡ true → slot_read_of w p count end i ≡ Ok s
  unfolding slot_read_of judge
  slot-in s h e f = rw (lt-ltb i count h, ← read_is s e, f)

-- the slot that was read is the page's, and a call with these tests goes on or is refused alike
module _ (w : ℕ) (p : List ℕ) (count end i : ℕ) where
  slot-holds : (s : Slot) → slot_read_of w p count end i ≡ Ok s → Hold (slot_checks w p count end i)
  unfolding slot_read_of
  slot-holds s e = answer_holds (slot_checks w p count end i) (slot_of p i) s e

  pub slot_is : (s : Slot) → slot_read_of w p count end i ≡ Ok s → s ≡ slot_of p i
  slot_is s e = let f : slot_read_of w p count end i ≡ Ok (slot_of p i) = unfold slot_read_of in judge_hold (slot_checks w p count end i) (Ok (slot_of p i)) Err (slot-holds s e) in cc

  pub slot-judge : (s : Slot) → slot_read_of w p count end i ≡ Ok s → {A : Type 0} (a : A) (r : Refusal → A) → judge (slot_checks w p count end i) a r ≡ a
  slot-judge s e a r = judge_hold (slot_checks w p count end i) a r (slot-holds s e)

  pub slot-refused : (q : Refusal) → slot_read_of w p count end i ≡ Err q → {A : Type 0} (a : A) (r : Refusal → A) → judge (slot_checks w p count end i) a r ≡ r q
  unfolding slot_read_of
  slot-refused q e a r = refused-judge (slot_checks w p count end i) (slot_of p i) q e a r

pub ruleset admitting = (rules_of_lem)

pub ruleset visiting = (slot-none, slot-out, slot-in)
