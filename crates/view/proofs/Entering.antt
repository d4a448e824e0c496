-- An entry shown is a key copied, with the value beside the length: its tests are those of the copy, so each way out follows from that of the copy.
-- Assumes nothing.
use Rattle.std.proofs.Common.{◌≡◌, refl, sym, ap, ◌∙◌, Bool, true, false, List, [], ◌∷◌, ◌++◌, ℕ, ◌+◌, ◌≤◌, ◌<◌, min, length, Result, Ok, Err}
use Rattle.octets.specs.Bytes.{le, put}
use Rattle.keys.specs.Choice.{pick}
use Rattle.paper.specs.Page.{slot_of, value_at, prefix_of, suffix_of}
use Rattle.paper.specs.Refusals.{Check, judge}
use Rattle.paper.specs.Calls.{key_at, copy_checks, copy_of, copy_buffer}
use Rattle.paper.specs.declared.page.Slot.{Slot}
use Rattle.paper.specs.declared.refusal.Refusal.{Refusal}
use Rattle.paper.specs.declared.refusal.Refusal.TheVariants.{BufferLength}
use Rattle.node.specs.Admit.{admit_of, opened_of}
use Rattle.node.proofs.Entries.{entered, width_whole, open-refused, value-within}
use Rattle.node.proofs.Copies.{copy-short, copy_done, copy_shut, size-least, prefix-most, suffix_within}
use Rattle.view.specs.Entries.{shown_entry}
use Rattle.view.specs.declared.entry.EntryShown.{EntryShown}

-- the same tests give answers that correspond
judge-map : {A B : Type 0} (f : A → B) (cs : List Check) (a : A) (r : Refusal → A) → judge cs (f a) (λ x. f (r x)) ≡ f (judge cs a r)
unfolding judge
judge-map f [] a r = refl
judge-map f (c ∷ cs) a r = go c.holds (judge-map f cs a r)
  where
    go : (t : Bool) → judge cs (f a) (λ x. f (r x)) ≡ f (judge cs a r) → pick t (judge cs (f a) (λ x. f (r x))) (f (r c.refusal)) ≡ f (pick t (judge cs a r) (r c.refusal))
    go true e = e
    go false e = refl

-- the copy's answer, with a value
abbrev with_value : ℕ → Result ℕ Refusal → Result EntryShown Refusal
with_value v (Ok n) = Ok (record { value = v; key_len = n })
with_value v (Err r) = Err r

module _ (w : ℕ) (p : List ℕ) (i : ℕ) (out : List ℕ) where
  abbrev held : ℕ
  held = le w p (value_at (slot_of p i))

  by_copy : shown_entry w p i out ≡ with_value held (copy_of w p i out)
  unfolding shown_entry copy_of
  by_copy = judge-map (with_value held) (copy_checks w p i out) (Ok (length (key_at p (slot_of p i)))) Err

  -- ---- the ways out: what is answered, and what the buffer holds
  module _ (q : Refusal) (e : opened_of w p i ≡ Err q) where
    pub shown-shut : Err q ≡ shown_entry w p i out
    shown-shut = ap (with_value held) (copy_shut w p i out q e).0 ∙ sym by_copy

    pub kept-shut : out ≡ copy_buffer w p i out
    kept-shut = (copy_shut w p i out q e).1

  module _ (q : Refusal) (e : admit_of w p 0 ≡ Err q) where
    pub shown_none : Err q ≡ shown_entry w p i out
    shown_none = shown-shut q (open-refused w p i q e)

    pub kept_none : out ≡ copy_buffer w p i out
    kept_none = kept-shut q (open-refused w p i q e)

  module _ (s : Slot) (e : opened_of w p i ≡ Ok s) (n : ℕ) where
    module _ (l : length out < n) (k : n ≡ le 2 p 46 + s.len) where
      pub shown-short : Err BufferLength ≡ shown_entry w p i out
      shown-short = ap (with_value held) (copy-short w p i s e (le 2 p 46) refl out n k l).0 ∙ sym by_copy

      pub kept-short : out ≡ copy_buffer w p i out
      kept-short = (copy-short w p i s e (le 2 p 46) refl out n k l).1

    -- the value was read at its place, as wide as the width says
    value_is : (at v : ℕ) → at ≡ value_at s → v ≡ le (min w 8) p at → v ≡ held
    value_is at v f g = let E = entered w p i s e in let whole = width_whole w E.width in rw (g, whole, f, E.slot)

    module _ (l : n ≤ length out) (k : n ≡ le 2 p 46 + s.len) where
      pub shown-done : (at v : ℕ) → v ≡ le (min w 8) p at → at ≡ value_at s → Ok (record { value = v; key_len = n }) ≡ shown_entry w p i out
      shown-done at v g f =
          ap (λ (x : ℕ). with_value x (Ok n)) (value_is at v f g)
          ∙ ap (with_value held) (copy_done w p i s e (le 2 p 46) refl out n k l).0 ∙ sym by_copy

      pub put-done : put out 0 (prefix_of p (le 2 p 46) ++ suffix_of p s) ≡ copy_buffer w p i out
      put-done = (copy_done w p i s e (le 2 p 46) refl out n k l).1

pub ruleset ways = (shown-shut, kept-shut, shown-short, kept-short, shown-done, put-done, size-least, prefix-most, suffix_within, value-within)
