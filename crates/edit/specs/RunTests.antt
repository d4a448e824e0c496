-- Run copy: what its tests ask of both pages, and the tests over slots where code reads them, from slot j on.
use Rattle.std.specs.Prelude.{◌≡◌, Bool, true, List, [], ◌∷◌, ◌++◌, ℕ, zero, suc, ◌+◌, ◌-◌, ◌*◌, ◌≤◌, ◌<◌, min, leb, eqb, length, take, Result, Ok, Err, ⊤}
use Rattle.keys.specs.Choice.{pick}
use Rattle.keys.specs.Keys.{same_list}
use Rattle.paper.specs.Lists.{less}
use Rattle.paper.specs.Page.{slot_of, prefix_of, frame_of, numbers_of, header_of}
use Rattle.paper.specs.Space.{need, free}
use Rattle.paper.specs.Listing.{listing, keys}
use Rattle.paper.specs.Refusals.{Check, check, judge}
use Rattle.paper.specs.Edits.{run_copied}
use Rattle.paper.specs.Calls.{key_at, prefix_held, inside_fences, run, entry_checks, above_last, need_of_all}
use Rattle.paper.specs.declared.page.Header.{Header}
use Rattle.paper.specs.declared.refusal.Refusal.TheVariants.{SlotNumber, Neighbours, NoRoom}
use Rattle.search.specs.Fence.{LongLies}
use Rattle.paper.specs.declared.refusal.Refusal.{Refusal}

-- ---- the keys of the page q, whose prefix has l bytes, can be read
pub record Shown (q : List ℕ) (l : ℕ) : Type 0 where
  pub size : length q ≡ 16384
  pub prefix : l ≡ (frame_of q).prefix_len
  pub most : l ≤ 16256
  pub slots : 8 * (numbers_of q).count ≤ 16256
  pub rows : (j : ℕ) → j < (numbers_of q).count → LongLies (length q) (slot_of q j)

-- and the fences of the page p with header h
pub record Fenced (p : List ℕ) (h : Header) : Type 0 where
  pub header : h ≡ header_of p
  pub shown : Shown p h.prefix_len
  pub lower : LongLies (length p) h.lower
  pub upper : LongLies (length p) h.upper

-- the source's prefix x and that of p: c is the length of the shorter, and alike says whether they are the same that far
pub record Meeting (p : List ℕ) (h : Header) (x : List ℕ) (c : ℕ) (alike : Bool) : Type 0 where
  pub cut : c ≡ min h.prefix_len (length x)
  pub alikeness : alike ≡ same_list (take c x) (take c (prefix_of p h.prefix_len))

-- ---- 8 and 9 for one key
unfoldable pub standing : List ℕ → List ℕ → Result ⊤ Refusal
standing p k = judge (prefix_held p k ∷ inside_fences p k ∷ []) (Ok tt) Err

-- "then entry by entry 8, 9": n entries of q, from slot j on
unfoldable pub standing_from : List ℕ → List ℕ → ℕ → ℕ → Result ⊤ Refusal
standing_from p q j zero = (Ok tt)
standing_from p q j (suc n) =
    judge (prefix_held p (key_at q (slot_of q j)) ∷ inside_fences p (key_at q (slot_of q j)) ∷ []) (standing_from p q (j + 1) n) Err

-- "then 12 for the first entry against the destination's last": n is the destination's count
unfoldable pub passes_last : List ℕ → ℕ → List ℕ → Bool
passes_last p n k = pick (eqb n 0) true (less (key_at p (slot_of p (n - 1))) k)

-- "then 13 for the whole run": what n entries of q need from slot j on, where keys have l bytes before their suffix and lose g
unfoldable pub needs_from : ℕ → ℕ → ℕ → List ℕ → ℕ → ℕ → ℕ
needs_from w g l q j zero = 0
needs_from w g l q j (suc n) = need w (l + (slot_of q j).len - g) + needs_from w g l q (j + 1) n

-- ---- 10 and the tests after it, of two pages that are fit
abbrev pub run_tests : ℕ → List ℕ → List ℕ → ℕ → ℕ → List Check
run_tests w p q a n =
    check (leb (a + n) (numbers_of q).count) SlotNumber
    ∷ entry_checks p (run w q a n)
    ++ check (above_last (keys (listing w p)) (run w q a n)) Neighbours
    ∷ check (leb (need_of_all w p (run w q a n)) (free (numbers_of p))) NoRoom
    ∷ []

unfoldable pub run_judged : ℕ → List ℕ → List ℕ → ℕ → ℕ → Result ⊤ Refusal
run_judged w p q a n = judge (run_tests w p q a n) (Ok tt) Err

unfoldable pub run_written : ℕ → List ℕ → List ℕ → ℕ → ℕ → List ℕ
run_written w p q a n = judge (run_tests w p q a n) (run_copied w p (run w q a n)) (λ r. p)
