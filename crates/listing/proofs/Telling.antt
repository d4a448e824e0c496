-- What text does to a writer and to sums, piece by piece. Assumes nothing.
use Rattle.std.proofs.Common.{◌≡◌, refl, sym, ap, ◌∙◌, List, [], ◌∷◌, ◌++◌, append_assoc, ℕ, ◌-◌, ◌≤◌, ◌<◌, arith, eq-eqb, ne_eqb, length, take, drop, length-drop, take_all, Option}
use native.Mathlib.Decide.{dec_le}
use Rattle.std.specs.Io.KnownBytes.{Appends, Keeps}
use Rattle.std.proofs.lemmas.List.{take-append-drop}
use Rattle.std.proofs.KnownBytes.{Appends-trans, Appends-kept}
use Rattle.listing.specs.Sums.{sink, begun, added, told, shown, mode_of}
use Rattle.listing.specs.Summed.{one_more, summed}
use Rattle.listing.specs.declared.sink.Sink.{Sink}
use Rattle.listing.specs.declared.sink.Mode.TheVariants.{Printed, Summed}
use Rattle.listing.specs.declared.receiver.Sums.{Sums}

-- ---- sums: what a sink is told, where it does not print
told_summed : (m : ℕ) (s : Sums) (l : List ℕ) → 0 < m → told (sink m s.h1 s.h2 s.len) l ≡ sink m (summed s l).h1 (summed s l).h2 (summed s l).len
unfolding told added
told_summed m s [] h = refl
told_summed m s (x ∷ l) h = rw (ne_eqb m 0 (λ q. omega arith)) (told_summed m (one_more s x) l h)

-- ---- the mode that a number stands for
pub mode-printed : (m : ℕ) → Printed ≡ mode_of m → m ≤ 0
mode-printed m e = go (dec_le m 0)
  where
    go : Dec (m ≤ 0) → m ≤ 0
    go (yes h) = h
    go (no h) = absurd (cc (rw (ne_eqb m 0 (λ q. h (omega (arith, q)))) at e))

pub mode-summed : (m : ℕ) → Summed ≡ mode_of m → 0 < m
mode-summed m e = go (dec_le m 0)
  where
    go : Dec (m ≤ 0) → 0 < m
    go (yes h) = absurd (cc (rw (eq-eqb m 0 (omega (arith, h))) at e))
    go (no h) = omega (arith, h)

pub shown_all : (m : ℕ) (l : List ℕ) → m ≤ 0 → shown m l ≡ l
unfolding shown
shown_all m l h = rw (eq-eqb m 0 (omega arith))

pub shown_none : (m : ℕ) (l : List ℕ) → 0 < m → shown m l ≡ []
unfolding shown
shown_none m l h = rw (ne_eqb m 0 (λ q. omega arith))

-- a sink that prints stays as it is
told_printing : (s : Sink) (l : List ℕ) → s.mode ≤ 0 → told s l ≡ s
unfolding told
told_printing s [] h = refl
told_printing s (x ∷ l) h = rw (eq-eqb s.mode 0 (omega arith)) (told_printing s l h)

pub told-printed : (m : ℕ) (l : List ℕ) → m ≤ 0 → sink m 0 0 0 ≡ told (begun m) l
unfolding begun
told-printed m l h = sym (told_printing (sink m 0 0 0) l h)

-- one that sums is the sums of the text
pub told-summed : (m : ℕ) (z s : Sums) (l : List ℕ) → 0 < m → z.h1 ≡ 0 → z.h2 ≡ 0 → z.len ≡ 0 → s ≡ summed z l → sink m s.h1 s.h2 s.len ≡ told (begun m) l
unfolding begun
told-summed m z s l h a b d f = cc (told_summed m z l h)

-- ---- a piece of which the rest is left to be written: the writer's bytes a became b by what stands before it
pub record Writing (a b : Option (List ℕ)) (l rest : List ℕ) : Type 0 where
  pub front : List ℕ
  pub whole : l ≡ front ++ rest
  pub bytes : Appends a b front

-- some of it is written
pub writing-on : (a b c : Option (List ℕ)) (l rest : List ℕ) (n : ℕ) → Writing a b l rest → Appends b c (take n rest) → Writing a c l (take (length rest - n) (drop n rest))
writing-on a b c l rest n f g =
    let left : take (length rest - n) (drop n rest) ≡ drop n rest = take_all (length rest - n) (drop n rest) (simp length-drop (omega arith)) in
    record {
      front = f.front ++ take n rest;
      whole = f.whole ∙ rw left (ap (λ t. f.front ++ t) (sym (take-append-drop n rest)) ∙ sym (append_assoc f.front (take n rest) (drop n rest)));
      bytes = Appends-trans a b c f.front (take n rest) f.bytes g;
    }

pub writing-kept : (a b c : Option (List ℕ)) (l rest : List ℕ) → Writing a b l rest → Keeps b c → Writing a c l rest
writing-kept a b c l rest f g = record { front = f.front; whole = f.whole; bytes = Appends-kept a b c f.front f.bytes g }

-- ---- what `print` asks
pub ruleset moded = (mode-printed, mode-summed, shown_all, shown_none, told-printed, told-summed)
