-- An entry's tests are those of the page and those of its slot, one after the other; and what an entry that may be read says of the page.
-- Assumes nothing.
use Rattle.std.proofs.Common.{◌≡◌, refl, sym, ◌∙◌, true, false, List, [], ◌++◌, ℕ, ◌+◌, ◌≤◌, min, arith, eqb-true, ne_eqb, ltb, eqb, length, Ok, Err}
use Rattle.std.proofs.lemmas.Bool.{both_ways}
use native.Mathlib.Decide.{dec_le}
use Rattle.octets.specs.Bytes.{le}
use Rattle.paper.specs.Lists.{all}
use Rattle.paper.specs.Page.{slot_of, frame_of, numbers_of, value_at}
use Rattle.paper.specs.Verdicts.{slot_payload, within, header_rules}
use Rattle.paper.specs.Refusals.{Check, judge}
use Rattle.paper.specs.Calls.{is_width, entry_tests, read_entry}
use Rattle.paper.specs.declared.page.Slot.{Slot}
use Rattle.paper.specs.declared.refusal.Refusal.{Refusal}
use Rattle.paper.proofs.Lists.{both_parts}
use Rattle.paper.proofs.Fit.{Lie, within_fact, Rules, rules}
use Rattle.paper.proofs.Holding.{Hold, judge_hold, answer_holds, refused-judge, judge-append}
use Rattle.node.specs.Admit.{admit_checks, admit_of, slot_checks, slot_read_of, opened_of}
use Rattle.node.proofs.Admits.{admitted-judge, refused-admit, admitted-size, admitted-slots}

-- a known width is at most 8
pub width_whole : (w : ℕ) → is_width w ≡ true → min w 8 ≡ w
unfolding is_width
width_whole w e = go (dec_le w 8)
  where
    go : Dec (w ≤ 8) → min w 8 ≡ w
    go (yes h) = omega arith
    go (no h) = absurd (both_ways false refl (rw (ne_eqb w 0 (λ k. omega arith), ne_eqb w 1 (λ k. omega arith), ne_eqb w 8 (λ k. omega arith)) at e))

module _ (w : ℕ) (p : List ℕ) (i : ℕ) where
  abbrev slotTests : List Check
  slotTests = slot_checks w p (numbers_of p).count (numbers_of p).end i

  split : {A : Type 0} (a : A) (r : Refusal → A) → judge (entry_tests w p i) a r ≡ judge (admit_checks w p 0) (judge slotTests a r) r
  unfolding judge
  split a r = refl

  -- ---- the page's tests alone, then the slot by numbers that were read
  pub open-refused : (q : Refusal) → admit_of w p 0 ≡ Err q → opened_of w p i ≡ Err q
  unfolding opened_of
  open-refused q e = split (Ok (slot_of p i)) Err ∙ refused-admit w p 0 q e _ Err

  pub open_is : (count end : ℕ) → admit_of w p 0 ≡ Ok tt → count ≡ le 2 p 2 → end ≡ le 2 p 6 → slot_read_of w p count end i ≡ opened_of w p i
  unfolding opened_of slot_read_of numbers_of
  open_is count end e k f = rw (k, f) (sym (split (Ok (slot_of p i)) Err ∙ admitted-judge w p 0 e _ Err))

  -- ---- what is known of an entry that may be read
  pub record Entered (s : Slot) : Type 0 where
    pub slot : s ≡ slot_of p i
    pub size : length p ≡ 16384
    pub width : is_width w ≡ true
    pub rules : Rules (frame_of p) (numbers_of p)
    pub payload : Lie (numbers_of p).end (slot_payload w s)

  holds : (s : Slot) → opened_of w p i ≡ Ok s → Hold (entry_tests w p i)
  unfolding opened_of
  holds s e = answer_holds (entry_tests w p i) (slot_of p i) s e

  opened-same : (s : Slot) → opened_of w p i ≡ Ok s → opened_of w p i ≡ Ok (slot_of p i)
  unfolding opened_of
  opened-same s e = judge_hold (entry_tests w p i) (Ok (slot_of p i)) Err (holds s e)

  pub entered : (s : Slot) → opened_of w p i ≡ Ok s → Entered s
  unfolding all
  entered s e =
      let a = both_parts (eqb (length p) 16384) _ (holds s e) in
      let b = both_parts (is_width w) _ a.1 in
      let c = both_parts (header_rules (frame_of p) (numbers_of p)) _ b.1 in
      let d = both_parts (ltb i (numbers_of p).count) _ c.1 in
      let f = both_parts (within (numbers_of p).end (slot_payload w (slot_of p i))) _ d.1 in
      let same = opened-same s e in
      let slot : s ≡ slot_of p i = cc in
      record {
        slot = slot;
        size = eqb-true (length p) 16384 a.0;
        width = b.0;
        rules = rules (frame_of p) (numbers_of p) c.0;
        payload = within_fact (numbers_of p).end (slot_payload w s) (rw slot f.0);
      }

  -- a call with these tests and others goes on to the others, or is refused alike
  pub opened-judge : (s : Slot) → opened_of w p i ≡ Ok s → {A : Type 0} (cs : List Check) (a : A) (r : Refusal → A) → judge (entry_tests w p i ++ cs) a r ≡ judge cs a r
  opened-judge s e cs a r = judge-append (entry_tests w p i) cs a r ∙ judge_hold (entry_tests w p i) (judge cs a r) r (holds s e)

  pub shut-judge : (q : Refusal) → opened_of w p i ≡ Err q → {A : Type 0} (cs : List Check) (a : A) (r : Refusal → A) → judge (entry_tests w p i ++ cs) a r ≡ r q
  unfolding opened_of
  shut-judge q e cs a r =
      judge-append (entry_tests w p i) cs a r
      ∙ refused-judge (entry_tests w p i) (slot_of p i) q e (judge cs a r) r

  -- ---- the entry
  pub entry-shut : (q : Refusal) → opened_of w p i ≡ Err q → read_entry w p i ≡ Err q
  unfolding read_entry
  entry-shut q e = shut-judge q e [] (Ok (record { slot = slot_of p i; value = le w p (value_at (slot_of p i)) })) Err

  pub entry-none : (q : Refusal) → admit_of w p 0 ≡ Err q → read_entry w p i ≡ Err q
  entry-none q e = entry-shut q (open-refused q e)

  -- its value stands within the page
  pub value-within : (s : Slot) → opened_of w p i ≡ Ok s → (at : ℕ) → at ≡ value_at s → at + w ≤ length p
  value-within s e at k = let E = entered s e in let l = E.payload.1 in omega (arith, E.size, l, k)

  -- and is read whole
  pub entry-is : (s : Slot) (at v : ℕ) → opened_of w p i ≡ Ok s → at ≡ value_at s → v ≡ le (min w 8) p at → read_entry w p i ≡ Ok (record { slot = s; value = v })
  unfolding read_entry judge
  entry-is s at v e k f =
      let E = entered s e in
      let width : min w 8 ≡ w = width_whole w E.width in
      opened-judge s e [] (Ok (record { slot = slot_of p i; value = le w p (value_at (slot_of p i)) })) Err ∙ sym (rw (f, width, k, ← E.slot))

pub ruleset opening = (admitted-size, admitted-slots, open_is)

pub ruleset reading = (entry-none, entry-shut, value-within, entry-is)
