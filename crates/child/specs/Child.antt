-- The child number of a page that is fit.
use Rattle.std.specs.Prelude.{ℕ, List, [], ◌∷◌, Result, Ok, Err}
use Rattle.paper.specs.Page.{frame_of}
use Rattle.paper.specs.Refusals.{judge}
use Rattle.paper.specs.Listing.{listing}
use Rattle.paper.specs.Searches.{child_scan}
use Rattle.paper.specs.Calls.{prefix_held, inside_fences}
use Rattle.paper.specs.declared.refusal.Refusal.{Refusal}
use Rattle.paper.specs.declared.answers.Child.{Child}

-- 8, 9, and then what a scan of the listing finds
unfoldable pub child_with : List ℕ → List ℕ → Result Child Refusal
child_with p k = judge (prefix_held p k ∷ inside_fences p k ∷ []) (Ok (child_scan (frame_of p).lower_value k (listing 8 p))) Err
