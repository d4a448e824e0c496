-- One text and then another are one text, to a writer and to sums.
use Rattle.std.specs.Prelude.{◌≡◌, List, ℕ, [], ◌∷◌, ◌++◌, Option, refl}
use Rattle.std.proofs.Common.{sym, ap, ◌∙◌, append_assoc}
use Rattle.std.specs.Io.KnownBytes.{Appends}
use Rattle.std.proofs.KnownBytes.{Appends-trans}
use Rattle.listing.specs.Sums.{Stopped}
use Rattle.listing.specs.Summed.{one_more, summed}
use Rattle.listing.specs.declared.receiver.Sums.{Sums}

-- ---- sums
pub summed-nil : (a : Sums) → a ≡ summed a []
summed-nil a = refl

summed_both : (a : Sums) (l k : List ℕ) → summed (summed a l) k ≡ summed a (l ++ k)
summed_both a [] k = refl
summed_both a (x ∷ l) k = summed_both (one_more a x) l k

pub summed-append : (a b c : Sums) (l k : List ℕ) → b ≡ summed a l → c ≡ summed b k → c ≡ summed a (l ++ k)
summed-append a b c l k f g = g ∙ ap (λ s. summed s k) f ∙ summed_both a l k

-- ---- a writer: where it failed at a text, it failed in any that goes on after it
pub stopped-grown : (a b : Option (List ℕ)) (l k : List ℕ) → Stopped a b l → Stopped a b (l ++ k)
stopped-grown a b l k f =
    record { front = f.front; rest = f.rest ++ k; whole = ap (λ t. t ++ k) f.whole ∙ append_assoc f.front f.rest k; bytes = f.bytes }

-- after one text in another, it failed in both together
pub stopped-after : (a b c : Option (List ℕ)) (h k : List ℕ) → Appends a b h → Stopped b c k → Stopped a c (h ++ k)
stopped-after a b c h k e f =
    record {
      front = h ++ f.front;
      rest = f.rest;
      whole = ap (λ t. h ++ t) f.whole ∙ sym (append_assoc h f.front f.rest);
      bytes = Appends-trans a b c h f.front e f.bytes;
    }
