-- A slot compared with a probe, by a header that was read.
use Rattle.std.specs.Prelude.{ℕ, List, eqb, ℤ, pos, negsuc, Result, Ok, Err}
use Rattle.keys.specs.Choice.{pick}
use Rattle.paper.specs.Page.{frame_of}
use Rattle.paper.specs.Searches.{probe_suffix, sign_of}
use Rattle.paper.specs.declared.page.Header.{Header}
use Rattle.search.specs.Probe.{class_by, class_number}
use Rattle.search.specs.Slot.{met_alone}
use Rattle.std.specs.declared.cmp.Ordering.{Ordering}
use Rattle.paper.specs.declared.refusal.Refusal.{Refusal}

-- the sign by the class as a number
unfoldable pub sign_by : ℕ → Ordering → ℤ
sign_by c o = pick (eqb c 0) (pos 1) (pick (eqb c 2) (negsuc 0) (sign_of o))

unfoldable pub signed : ℕ → Result Ordering Refusal → Result ℤ Refusal
signed c (Ok o) = Ok (sign_by c o)
signed c (Err r) = Err r

unfoldable pub compare_with : ℕ → List ℕ → Header → ℕ → List ℕ → Result ℤ Refusal
compare_with w p h i k = signed (class_number (class_by p h.prefix_len k)) (met_alone w p h.count h.end (probe_suffix (frame_of p) k) i)
