-- Demand 3, in the customer's words and order.
use Rattle.std.specs.Prelude.{◌≡◌, ℕ, ◌≤◌, Bool, true, false, length, take, get_or, ltb, Result, Ok, Err, List, [], ◌∷◌, ◌++◌}
use mathlib.Core.List.{Permᴰ}
use Rattle.octets.specs.Bytes.{IsBytes}
use Rattle.keys.specs.Choice.{both}
use Rattle.keys.specs.Keys.{order}
use Rattle.paper.specs.Lists.{all, pairs, differ, rising}
use Rattle.paper.specs.Page.{frame_of, numbers_of}
use Rattle.paper.specs.Space.{free}
use Rattle.paper.specs.Verdicts.{inside}
use Rattle.paper.specs.Listing.{Entry, listing, keys, file_all}
use Rattle.paper.specs.Refusals.{check, judge}
use Rattle.paper.specs.declared.refusal.Refusal.TheVariants.{SlotNumber}
use Rattle.paper.specs.Searches.{sign_of, scan, find_scan, child_scan}
use Rattle.paper.specs.Calls.{key_length, fits_width, prefix_held, inside_fences, insert_of, insert_page, find_of, bound_of, compare_of, child_of, fit_verdict, need_of_all}
use Rattle.paper.specs.declared.refusal.Refusal.{Refusal}

-- "file them .. each by the insert that refreshes hints": the page after all of them
unfoldable pub page_after : ℕ → List ℕ → List Entry → List ℕ
page_after w p [] = p
page_after w p (e ∷ es) = page_after w (insert_page w p e.key e.value) es

unfoldable pub is_accepted : Result ℕ Refusal → Bool
is_accepted (Ok i) = true
is_accepted (Err r) = false

-- were all of them accepted, each on the page that the ones before it left
unfoldable pub all_accepted : ℕ → List ℕ → List Entry → Bool
all_accepted w p [] = true
all_accepted w p (e ∷ es) = both (is_accepted (insert_of w p e.key e.value)) (all_accepted w (insert_page w p e.key e.value) es)

-- ---- what the demand starts from: a page p of width w and records es
pub record Given (w : ℕ) (p : List ℕ) (es : List Entry) : Type 0 where
  -- "a page that passes 01's fit check at its width"
  pub bytes : IsBytes p
  pub fit : fit_verdict w p ≡ Ok 0
  -- "records with pairwise different keys, none on the page, all inside its fences, values that fit the width"
  pub key_bytes : (i : ℕ) → IsBytes (get_or es i (record { key = []; value = 0 })).key
  pub different : pairs (λ a b. differ a.key b.key) es ≡ true
  pub absent : all (λ e. all (differ e.key) (keys (listing w p))) es ≡ true
  pub fenced : all (λ e. inside (frame_of p) e.key) es ≡ true
  pub values : all (λ e. fits_width w e.value) es ≡ true
  -- "and total need within the free space"
  pub room : need_of_all w p es ≤ free (numbers_of p)

-- ---- what every search answers on the page q whose listing is l: what a scan of l finds, unless the key itself is refused by what the
-- first page p and the listing say
pub record Searched (w : ℕ) (p q : List ℕ) (l : List Entry) : Type 0 where
  -- lower (u false) and upper (u true) bound
  pub bound : (u : Bool) (k : List ℕ) → IsBytes k → bound_of u w q k ≡ judge (key_length k ∷ []) (Ok (scan u k l)) Err
  pub find : (k : List ℕ) → IsBytes k → find_of w q k ≡ judge (key_length k ∷ prefix_held p k ∷ []) (find_scan k l) Err
  pub compare : (i : ℕ) (k : List ℕ) → IsBytes k
      → compare_of w q i k ≡ judge (key_length k ∷ check (ltb i (length l)) SlotNumber ∷ []) (Ok (sign_of (order (get_or (keys l) i []) k))) Err
  -- "child -1 with the header's lower fence value"; children are of width 8
  pub child : (k : List ℕ) → w ≡ 8
      → child_of q k ≡ judge (key_length k ∷ prefix_held p k ∷ inside_fences p k ∷ []) (Ok (child_scan (frame_of p).lower_value k l)) Err

-- ---- what it concludes: fs are the records in any order, q the page after, l the listing after
pub record Demanded (w : ℕ) (p : List ℕ) (es fs : List Entry) (q : List ℕ) (l : List Entry) : Type 0 where
  -- "every insert is accepted"
  pub accepted : all_accepted w p fs ≡ true
  -- "the listing is the old one plus these records in byte order, each with its own value"
  pub shows : listing w q ≡ l
  pub rises : rising (keys l) ≡ true
  pub holds : Permᴰ l (es ++ listing w p)
  -- the page is fit again
  pub fit : fit_verdict w q ≡ Ok 0
  -- "all 96 header bytes come out alike for every order"
  pub header : take 96 q ≡ take 96 (page_after w p es)
  -- "every search that 01 doesn't refuse returns what a scan of that listing returns .. hints in use or not"
  pub searches : Searched w p q l

-- "file them in any order"
abbrev pub Demand3 : Type 0
Demand3 =
    (w : ℕ) (p : List ℕ) (es fs : List Entry) → Given w p es → Permᴰ es fs
    → Demanded w p es fs (page_after w p fs) (file_all es (listing w p))
