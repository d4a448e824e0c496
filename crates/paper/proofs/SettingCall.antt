-- The call that sets a value, where all its tests hold: the key stands where the scan for it stops, the answer is the value that the listing
-- shows there, and the page after it is fit and lists the new value under that key and all else as it was. Assumes nothing.
use Rattle.std.proofs.Common.{◌≡◌, sym, ap, ◌∙◌, true, false, not, List, [], ℕ, ◌^◌, ◌<◌, eqb-true, ltb-true, leb, ltb, eqb, length, get_or, take, Ok, Err}
use borrow.Author.Tests.{not-true}
use Rattle.octets.specs.Bytes.{IsBytes}
use Rattle.keys.specs.Choice.{both}
use Rattle.paper.specs.Lists.{swap, all, differ}
use Rattle.paper.specs.Page.{frame_of, numbers_of, view_of}
use Rattle.paper.specs.Verdicts.{fit_of}
use Rattle.paper.specs.Listing.{Entry, listing, keys}
use Rattle.paper.specs.Edits.{value_set}
use Rattle.paper.specs.Searches.{scan}
use Rattle.paper.specs.Calls.{is_width, fits_width, has_prefix, stored_value, set_checks, set_of, set_page, fit_verdict}
use Rattle.paper.proofs.Lists.{both_parts}
use Rattle.paper.proofs.Swaps.{getD-swap, getD-swap-other}
use Rattle.paper.proofs.Judging.{fit_passed}
use Rattle.paper.proofs.Fit.{Fit, fit, fit_back}
use Rattle.paper.proofs.Filing.{length-listing}
use Rattle.paper.proofs.Searching.{rises, length-keys}
use Rattle.paper.proofs.Listed.{listed, present_at}
use Rattle.paper.proofs.Holding.{Hold, judge_hold}
use Rattle.paper.proofs.Setting.{length-set, set-bytes, set-frame, set-header}
use Rattle.paper.proofs.SettingFit.{set-fits, set-listing, set-keys-listing}

-- what the tests say
pub record Sets (w : ℕ) (p k : List ℕ) (expected new : ℕ) : Type 0 where
  pub size : length p ≡ 16384
  pub width : is_width w ≡ true
  pub fit : Fit w (view_of w p)
  pub old_fits : expected < 256 ^ w
  pub new_fits : new < 256 ^ w
  pub prefix : has_prefix (frame_of p) k ≡ true
  pub present : all (differ k) (keys (listing w p)) ≡ false
  pub stored : stored_value w p k ≡ expected

pub sets : (w : ℕ) (p k : List ℕ) (expected new : ℕ) → Hold (set_checks w p k expected new) → Sets w p k expected new
unfolding set_checks all fit_of fits_width
sets w p k expected new H =
    let a = both_parts (eqb (length p) 16384) _ H in
    let b = both_parts (is_width w) _ a.1 in
    let c = both_parts (leb (length k) 65535) _ b.1 in
    let d = both_parts (eqb (fit_of w p) 0) _ c.1 in
    let e = both_parts (both (ltb expected (256 ^ w)) (ltb new (256 ^ w))) _ d.1 in
    let v = both_parts (ltb expected (256 ^ w)) (ltb new (256 ^ w)) e.0 in
    let f = both_parts (has_prefix (frame_of p) k) _ e.1 in
    let g = both_parts (not (all (differ k) (keys (listing w p)))) _ f.1 in
    let h = both_parts (eqb (stored_value w p k) expected) _ g.1 in
    record {
      size = eqb-true (length p) 16384 a.0;
      width = b.0;
      fit = fit w (view_of w p) (eqb-true (fit_of w p) 0 d.0);
      old_fits = ltb-true expected (256 ^ w) v.0;
      new_fits = ltb-true new (256 ^ w) v.1;
      prefix = f.0;
      present = not-true (all (differ k) (keys (listing w p))) g.0;
      stored = eqb-true (stored_value w p k) expected h.0;
    }

module _ (w : ℕ) (p k : List ℕ) (expected new : ℕ) (b : IsBytes p) (H : Hold (set_checks w p k expected new)) where
  abbrev i : ℕ
  i = scan false k (listing w p)

  abbrev q : List ℕ
  q = set_page w p k expected new

  S : Sets w p k expected new
  S = sets w p k expected new H

  -- ---- the answer
  -- the key stands in slot i
  pub set_there : i < (numbers_of p).count
  set_there = rw (length-keys w p S.size b S.fit) at (present_at k (keys (listing w p)) (rises w p S.size b S.fit) S.present).0

  pub set_key : get_or (keys (listing w p)) i [] ≡ k
  set_key = (present_at k (keys (listing w p)) (rises w p S.size b S.fit) S.present).1

  -- the stored value is that of the listing
  pub set-stored : (d : Entry) → stored_value w p k ≡ (get_or (listing w p) i d).value
  unfolding stored_value
  set-stored d = sym (ap (λ (e : Entry). e.value) (listed w p i d set_there))

  pub set-answer : set_of w p k expected new ≡ Ok (stored_value w p k)
  unfolding set_of
  set-answer = judge_hold (set_checks w p k expected new) (Ok (stored_value w p k)) Err H

  -- and it is the expected one
  pub set-expected : set_of w p k expected new ≡ Ok expected
  set-expected = set-answer ∙ ap Ok S.stored

  -- ---- the page
  pub set-page : set_page w p k expected new ≡ value_set w p i new
  unfolding set_page
  set-page = judge_hold (set_checks w p k expected new) (value_set w p i new) (λ r. p) H

  pub set-size : length q ≡ 16384
  set-size = rw set-page (length-set w p i new S.size)

  pub set-page-bytes : IsBytes q
  set-page-bytes = rw set-page (set-bytes w p i new b)

  pub set-page-fit : Fit w (view_of w q)
  set-page-fit = rw set-page (set-fits w p i new S.size b S.fit set_there S.new_fits)

  pub set-verdict : fit_verdict w q ≡ Ok 0
  set-verdict = fit_passed w q (record { size = set-size; width = S.width; fit = unfold fit_of in fit_back w (view_of w q) set-page-fit })

  pub set-page-frame : frame_of q ≡ frame_of p
  set-page-frame = rw set-page (set-frame w p i new S.size S.fit set_there)

  pub set-page-header : take 96 q ≡ take 96 p
  set-page-header = rw set-page (set-header w p i new S.size S.fit set_there)

  -- ---- the listing
  -- the new value for that key
  pub set-shows : listing w q ≡ swap i (record { key = k; value = new }) (listing w p)
  set-shows = rw set-page (set-listing w p i new S.size b S.fit set_there S.new_fits ∙ rw set_key)

  pub set_here : (d : Entry) → get_or (listing w q) i d ≡ record { key = k; value = new }
  set_here d = rw set-shows (getD-swap i (record { key = k; value = new }) d (listing w p) (rw (length-listing w p) set_there))

  -- and all else as it was
  pub set-elsewhere : (j : ℕ) (d : Entry) → (j ≡ i → ⊥) → get_or (listing w q) j d ≡ get_or (listing w p) j d
  set-elsewhere j d n = rw set-shows (getD-swap-other i (record { key = k; value = new }) d (listing w p) j n)

  pub set-same-keys : keys (listing w q) ≡ keys (listing w p)
  set-same-keys = rw set-page (set-keys-listing w p i new S.size b S.fit set_there S.new_fits)
