-- Insert on a page that is fit.
use Rattle.std.specs.Prelude.{ℕ, ◌-◌, Bool, false, List, [], ◌∷◌, leb, length, Result, Ok, Err}
use Rattle.keys.specs.Choice.{pick}
use Rattle.paper.specs.Lists.{all, differ}
use Rattle.paper.specs.Page.{frame_of, numbers_of}
use Rattle.paper.specs.Space.{need, free}
use Rattle.paper.specs.Listing.{listing, keys}
use Rattle.paper.specs.Refusals.{Check, check, judge}
use Rattle.paper.specs.Edits.{inserted}
use Rattle.paper.specs.Searches.{probe_suffix, scan}
use Rattle.paper.specs.Calls.{fits_width, prefix_held, inside_fences}
use Rattle.paper.specs.declared.refusal.Refusal.TheVariants.{ValueRange, Present, NoRoom}
use Rattle.paper.specs.declared.refusal.Refusal.{Refusal}
use Rattle.paper.specs.declared.answers.Found.{Found}
use Rattle.paper.specs.declared.answers.Found.TheVariants.{Equal, Smaller}

-- 7, 8, 9, 11, 13
abbrev pub insert_tests : ℕ → List ℕ → List ℕ → ℕ → List Check
insert_tests w p k v =
    check (fits_width w v) ValueRange
    ∷ prefix_held p k
    ∷ inside_fences p k
    ∷ check (all (differ k) (keys (listing w p))) Present
    ∷ check (leb (need w (length (probe_suffix (frame_of p) k))) (free (numbers_of p))) NoRoom
    ∷ []

-- the slot, or the first of them that does not hold; and the page
unfoldable pub insert_with : ℕ → List ℕ → List ℕ → ℕ → Result ℕ Refusal
insert_with w p k v = judge (insert_tests w p k v) (Ok (scan false k (listing w p))) Err

unfoldable pub inserted_with : ℕ → List ℕ → List ℕ → ℕ → List ℕ
inserted_with w p k v = judge (insert_tests w p k v) (inserted w p (scan false k (listing w p)) (probe_suffix (frame_of p) k) v) (λ r. p)

-- 13: whether there is room from start to end for a suffix of n bytes
unfoldable pub room_with : ℕ → ℕ → ℕ → ℕ → Bool
room_with w start end n = leb (need w n) (end - start)

-- 11 and 13, by what a search found and whether there is room
unfoldable pub place_by : Bool → Result Found Refusal → Result ℕ Refusal
place_by room (Ok (Equal i)) = Err Present
place_by room (Ok (Smaller i)) = pick room (Ok i) (Err NoRoom)
place_by room (Err r) = Err r
