-- The key of an entry that may be read is prefix and suffix as the code finds them, and the copy's three ways out. Assumes nothing.
use Rattle.std.proofs.Common.{◌≡◌, sym, ap, ◌∙◌, Bool, true, false, List, [], ◌∷◌, ◌++◌, ℕ, ◌+◌, ◌≤◌, ◌<◌, arith, le-leb, leb, length, length-append, Ok, Err}
use borrow.Author.Tests.{lt-leb}
use Rattle.octets.specs.Bytes.{le, put}
use Rattle.keys.specs.Choice.{pick}
use Rattle.paper.specs.Page.{slot_of, frame_of, prefix_of, suffix_of, body_bytes}
use Rattle.paper.specs.Refusals.{check, judge}
use Rattle.paper.specs.Calls.{key_at, copy_checks, copy_of, copy_buffer}
use Rattle.paper.specs.declared.page.Slot.{Slot}
use Rattle.paper.specs.declared.refusal.Refusal.{Refusal}
use Rattle.paper.specs.declared.refusal.Refusal.TheVariants.{BufferLength}
use Rattle.node.specs.Admit.{opened_of}
use Rattle.node.proofs.Entries.{Entered, entered, opened-judge, shut-judge}
use Rattle.node.proofs.Spelling.{length-prefix_of, length-suffix_of}

module _ (w : ℕ) (p : List ℕ) (i : ℕ) (s : Slot) (e : opened_of w p i ≡ Ok s) where
  abbrev E : Entered w p i s
  E = entered w p i s e

  -- ---- its places
  pub size-least : 16384 ≤ length p
  size-least = omega (arith, E.size)

  pub suffix_within : 96 + s.offset + body_bytes 4 s.len ≤ length p
  suffix_within = let l = E.payload.1 in omega (arith, E.size, l)

  -- by the prefix length that was read
  module _ (m : ℕ) (f : m ≡ le 2 p 46) where
    pub prefix-most : m ≤ 16256
    unfolding frame_of
    prefix-most = rw f E.rules.prefix_most

    -- ---- its key
    pub key-is : key_at p (slot_of p i) ≡ prefix_of p m ++ suffix_of p s
    unfolding key_at frame_of
    key-is = rw (f, E.slot)

    pub key-length : length (key_at p (slot_of p i)) ≡ m + s.len
    key-length = rw (key-is, length-append, length-prefix_of p m size-least prefix-most, length-suffix_of p s suffix_within)

  -- ---- the copy
  abbrev key : List ℕ
  key = key_at p (slot_of p i)

  abbrev roomy : List ℕ → Bool
  roomy out = leb (length key) (length out)

  copy-by : {A : Type 0} (out : List ℕ) (a : A) (r : Refusal → A) (t : Bool) → roomy out ≡ t → judge (copy_checks w p i out) a r ≡ pick t a (r BufferLength)
  unfolding copy_checks judge
  copy-by out a r t l = opened-judge w p i s e (check (roomy out) BufferLength ∷ []) a r ∙ rw l

  module _ (m : ℕ) (f : m ≡ le 2 p 46) (out : List ℕ) (n : ℕ) (k : n ≡ m + s.len) where
    pub copy-short : length out < n → (Err BufferLength ≡ copy_of w p i out) × (out ≡ copy_buffer w p i out)
    unfolding copy_of copy_buffer
    copy-short l =
        let t : roomy out ≡ false = rw (key-length m f) (lt-leb (m + s.len) (length out) (omega arith)) in
        (sym (copy-by out (Ok (length key)) Err false t), sym (copy-by out (put out 0 key) (λ r. out) false t))

    pub copy_done : n ≤ length out → (Ok n ≡ copy_of w p i out) × (put out 0 (prefix_of p m ++ suffix_of p s) ≡ copy_buffer w p i out)
    unfolding copy_of copy_buffer
    copy_done l =
        let t : roomy out ≡ true = rw (key-length m f) (le-leb (m + s.len) (length out) (omega arith)) in (
          sym (copy-by out (Ok (length key)) Err true t ∙ ap Ok (key-length m f ∙ sym k)),
          sym (copy-by out (put out 0 key) (λ r. out) true t ∙ ap (put out 0) (key-is m f)),
        )

pub copy_shut : (w : ℕ) (p : List ℕ) (i : ℕ) (out : List ℕ) (q : Refusal) → opened_of w p i ≡ Err q → (Err q ≡ copy_of w p i out) × (out ≡ copy_buffer w p i out)
unfolding copy_of copy_buffer copy_checks
copy_shut w p i out q e = (sym (shut-judge w p i q e _ _ Err), sym (shut-judge w p i q e _ _ (λ (r : Refusal). out)))

-- what an entry that may be read says of its places
pub ruleset places = (size-least, prefix-most, suffix_within)
