-- On a fit page, for a key that has the prefix, a search of its suffix is a scan of the listing. Assumes nothing.
use Rattle.std.proofs.Common.{◌≡◌, ◌∙◌, Bool, true, List, ℕ, length, Ok}
use Rattle.octets.specs.Bytes.{IsBytes}
use Rattle.paper.specs.Page.{frame_of, header_of, view_of}
use Rattle.paper.specs.Listing.{listing}
use Rattle.paper.specs.Searches.{probe_suffix, scan, find_scan}
use Rattle.paper.specs.Calls.{has_prefix}
use Rattle.paper.proofs.Fit.{Fit}
use Rattle.paper.proofs.Searching.{bound-scan, find-scan}
use Rattle.search.specs.Bounds.{searched}
use Rattle.search.specs.Finds.{find_in}
use Rattle.search.proofs.Classes.{prefix_same}
use Rattle.search.proofs.Bounded.{searched-is}
use Rattle.search.proofs.Found.{found-is}

-- x is the key's suffix
module _ (w : ℕ) (p : List ℕ) (size : length p ≡ 16384) (b : IsBytes p) (F : Fit w (view_of w p)) (k : List ℕ) (hk : IsBytes k) (held : has_prefix (frame_of p) k ≡ true)
    (x : List ℕ) (d : x ≡ probe_suffix (frame_of p) k) where
  pub searched-scan : (u : Bool) → searched u w p (header_of p) x ≡ Ok (scan u k (listing w p))
  searched-scan u = rw d (searched-is u w p k (prefix_same p k held) ∙ bound-scan w p size b F u k hk)

  pub found-scan : find_in w p (header_of p) x ≡ find_scan k (listing w p)
  found-scan = rw d (found-is w p k (prefix_same p k held) ∙ find-scan w p size b F k hk)
