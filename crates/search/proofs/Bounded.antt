-- The bounds by a header are the paper's: the window lies among the slots, and within the prefix a slot that is visited meets the probe's suffix.
-- Assumes nothing.
use Rattle.std.proofs.Common.{◌≡◌, refl, sym, ◌∙◌, Bool, true, false, List, ℕ, ◌-◌, ◌≤◌, ◌<◌, arith, length, Result, Ok, Err}
use Rattle.keys.specs.Choice.{pick}
use Rattle.keys.specs.Keys.{head_of}
use Rattle.paper.specs.Page.{frame_of, numbers_of, header_of, hints_of}
use Rattle.paper.specs.Hints.{in_use, window_low, window_high}
use Rattle.paper.specs.Searches.{probe_suffix, class_of, by_class, slot_order, visit, turn, halving, bound_in, bound_by, bound}
use Rattle.paper.specs.declared.page.Header.{Header}
use Rattle.paper.proofs.Lists.{length-tab}
use Rattle.paper.proofs.Halving.{halving-fuel, halving-same}
use Rattle.paper.specs.Calls.{bound_of}
use Rattle.paper.specs.declared.refusal.Refusal.{Refusal}
use Rattle.node.specs.Admit.{admit_of}
use Rattle.node.proofs.Admits.{admitted-judge, refused-admit}
use Rattle.hint.proofs.Windows.{window-within}
use Rattle.search.specs.Probe.{class_by, class_number}
use Rattle.search.specs.Slot.{met_at, halved}
use Rattle.search.specs.Bounds.{window_of, searched, bound_with}
use Rattle.search.specs.declared.seek.Window.{Window}
use Rattle.search.proofs.Asked.{count-read, prefix-read, asked-size, asked-slots, asked-prefix}
use Rattle.search.proofs.Classes.{class_is, class_before, class_within, class_after, class_number-lt}
use Rattle.std.specs.declared.cmp.Ordering.{Ordering}
use Rattle.std.specs.declared.cmp.Ordering.TheVariants.{Less, Equal, Greater}

-- ---- the window
module _ (p : List ℕ) (flag count head : ℕ) where
  pub window-all : in_use flag count ≡ false → window_of p flag count head ≡ record { low = 0; high = count }
  unfolding window_of
  window-all e = rw e

  pub window-used : (hs : List ℕ) (l h : ℕ) → in_use flag count ≡ true → hs ≡ hints_of p → l ≡ window_low hs head count → h ≡ window_high hs head count
      → window_of p flag count head ≡ record { low = l; high = h }
  unfolding window_of
  window-used hs l h e f g k = rw (e, g, k, f)

  length-hints : length (hints_of p) ≡ 8
  unfolding hints_of
  length-hints = length-tab 8 _

  pub window-lies : ((window_of p flag count head).low ≤ (window_of p flag count head).high) × ((window_of p flag count head).high ≤ count)
  unfolding window_of
  window-lies = go (in_use flag count)
    where
      used : Window
      used = record { low = window_low (hints_of p) head count; high = window_high (hints_of p) head count }

      all : Window
      all = record { low = 0; high = count }

      go : (t : Bool) → ((pick t used all).low ≤ (pick t used all).high) × ((pick t used all).high ≤ count)
      go true = window-within (hints_of p) head count length-hints
      go false = (omega arith, omega arith)

  -- v is the window that was found
  module _ (v : Window) (e : v ≡ window_of p flag count head) where
    pub window-ordered : v.low ≤ v.high
    window-ordered = rw e window-lies.0

    pub window-there : v.high ≤ count
    window-there = rw e window-lies.1

-- ---- by class; c is the class as a number
module _ (u : Bool) (w : ℕ) (p : List ℕ) (h : Header) (k : List ℕ) (c : ℕ) (e : c ≡ class_number (class_by p h.prefix_len k)) where
  abbrev found : Result ℕ Refusal
  found = searched u w p h (probe_suffix (frame_of p) k)

  pub bound-before : c ≡ 0 → bound_with u w p h k ≡ Ok 0
  unfolding bound_with bound_by
  bound-before f = rw (class_before (class_by p h.prefix_len k) (sym e ∙ f))

  pub bound-within : c ≡ 1 → bound_with u w p h k ≡ found
  unfolding bound_with bound_by
  bound-within f = rw (class_within (class_by p h.prefix_len k) (sym e ∙ f))

  pub bound-after : (c ≡ 0 → ⊥) → (c ≡ 1 → ⊥) → bound_with u w p h k ≡ Ok h.count
  unfolding bound_with bound_by
  bound-after f g =
      let l : c < 3 = rw e (class_number-lt (class_by p h.prefix_len k)) in
      let two : c ≡ 2 = omega arith in
      rw (class_after (class_by p h.prefix_len k) (sym e ∙ two))

-- ---- the paper's bound
module _ (u : Bool) (w : ℕ) (p k : List ℕ) where
  abbrev s : List ℕ
  s = probe_suffix (frame_of p) k

  abbrev n : ℕ
  n = (numbers_of p).count

  pub met : class_of (frame_of p) k ≡ Equal → (i : ℕ) → met_at w p (numbers_of p).end s i ≡ slot_order w p k i
  unfolding met_at slot_order visit by_class
  met e i = rw e

  halved_is : class_of (frame_of p) k ≡ Equal → (lo hi : ℕ) → hi ≤ n → halved u w p (numbers_of p).end s lo hi ≡ halving (turn u) Ok n (slot_order w p k) lo hi
  unfolding halved
  halved_is e lo hi h =
      halving-fuel (turn u) Ok (hi - lo) n (met_at w p (numbers_of p).end s) lo hi (omega arith) (omega arith)
      ∙ halving-same (turn u) Ok n (met_at w p (numbers_of p).end s) (slot_order w p k) lo hi (λ i l. met e i)

  in_is : class_of (frame_of p) k ≡ Equal → searched u w p (header_of p) s ≡ bound_in u w p k
  unfolding searched bound_in header_of window_of
  in_is e = go (in_use (frame_of p).flag n) refl
    where
      used : Window
      used = record { low = window_low (hints_of p) (head_of s) n; high = window_high (hints_of p) (head_of s) n }

      all : Window
      all = record { low = 0; high = n }

      go : (t : Bool) → in_use (frame_of p).flag n ≡ t
          → halved u w p (numbers_of p).end s (pick t used all).low (pick t used all).high
          ≡ pick t (halving (turn u) Ok n (slot_order w p k) (window_low (hints_of p) (head_of s) n) (window_high (hints_of p) (head_of s) n)) (halving (turn u) Ok n (slot_order w p k) 0 n)
      go true f = halved_is e (window_low (hints_of p) (head_of s) n) (window_high (hints_of p) (head_of s) n) (window-within (hints_of p) (head_of s) n (length-hints p 0 0 0)).1
      go false f = halved_is e 0 n (omega arith)

  pub searched-is : class_of (frame_of p) k ≡ Equal → searched u w p (header_of p) s ≡ bound u w p k
  unfolding bound bound_by
  searched-is e = in_is e ∙ rw e

  pub bound-is : bound_with u w p (header_of p) k ≡ bound u w p k
  unfolding bound_with bound header_of bound_by
  bound-is = rw (class_is p k) (go (class_of (frame_of p) k) refl)
    where
      go : (o : Ordering) → class_of (frame_of p) k ≡ o → bound_by o n (searched u w p (header_of p) s) ≡ bound_by o n (bound_in u w p k)
      go Less e = refl
      go Equal e = in_is e
      go Greater e = refl

  -- ---- the call
  pub bound-refused : (q : Refusal) → admit_of w p (length k) ≡ Err q → bound_of u w p k ≡ Err q
  unfolding bound_of
  bound-refused q e = refused-admit w p (length k) q e (bound u w p k) Err

  pub bound-admitted : admit_of w p (length k) ≡ Ok tt → bound_of u w p k ≡ bound_with u w p (header_of p) k
  unfolding bound_of
  bound-admitted e = admitted-judge w p (length k) e (bound u w p k) Err ∙ sym bound-is

pub ruleset windows = (window-all, window-used)

pub ruleset lying = (window-ordered, window-there)

pub ruleset whole_call = (bound-refused, bound-admitted, bound-before, bound-after, bound-within, asked-size, asked-slots, asked-prefix, prefix-read, count-read)
