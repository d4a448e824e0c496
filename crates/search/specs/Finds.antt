-- Find by a header that was read.
use Rattle.std.specs.Prelude.{ℕ, Bool, false, List, ltb, eqb, Result, Ok, Err}
use Rattle.keys.specs.Choice.{pick}
use Rattle.keys.specs.Keys.{head_of}
use Rattle.paper.specs.Page.{frame_of, header_of}
use Rattle.paper.specs.Searches.{probe_suffix, tested}
use Rattle.paper.specs.declared.page.Header.{Header}
use Rattle.paper.specs.declared.refusal.Refusal.TheVariants.{Prefix}
use Rattle.search.specs.Probe.{class_by, class_number}
use Rattle.search.specs.Slot.{met_alone, Ends}
use Rattle.search.specs.Bounds.{window_of, searched}
use Rattle.search.specs.declared.halve.Halved.{Halved}
use Rattle.paper.specs.declared.refusal.Refusal.{Refusal}
use Rattle.paper.specs.declared.answers.Found.{Found}
use Rattle.paper.specs.declared.answers.Found.TheVariants.{Smaller}

-- the slot at the bound tested against the suffix s
unfoldable pub tested_at : ℕ → List ℕ → Header → List ℕ → Result ℕ Refusal → Result Found Refusal
tested_at w p h s (Ok i) = pick (ltb i h.count) (tested i (met_alone w p h.count h.end s i)) (Ok (Smaller i))
tested_at w p h s (Err r) = Err r

-- where halving over the window of the suffix s ended
abbrev pub SearchEnds : Bool → ℕ → List ℕ → List ℕ → Result Halved Refusal → Type 0
SearchEnds u w p s r =
    let h = header_of p in
    let v = window_of p h.flag h.count (head_of s) in
    Ends u w p h.end s v.low v.high r

-- find of the suffix s
unfoldable pub find_in : ℕ → List ℕ → Header → List ℕ → Result Found Refusal
find_in w p h s = tested_at w p h s (searched false w p h s)

-- find of the key k
unfoldable pub find_with : ℕ → List ℕ → Header → List ℕ → Result Found Refusal
find_with w p h k = pick (eqb (class_number (class_by p h.prefix_len k)) 1) (find_in w p h (probe_suffix (frame_of p) k)) (Err Prefix)
