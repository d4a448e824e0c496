-- Demand 3. Filing in any order is `filed`, its independence of the order `listing-alike` and `header-alike`, and on the fit page that it
-- leaves every search is a scan. Assumes nothing.
use Rattle.std.proofs.Common.{◌≡◌, refl, ap, Bool, true, List, [], ◌∷◌, ℕ, ◌<◌, arith, lt-ltb, le-ltb, leb, ltb, length, get_or, ℤ, Result, Ok, Err}
use native.Mathlib.Decide.{dec_lt}
use Rattle.octets.specs.Bytes.{IsBytes}
use Rattle.keys.specs.Choice.{pick}
use Rattle.keys.specs.Keys.{order}
use Rattle.paper.specs.Page.{frame_of, numbers_of, view_of}
use Rattle.paper.specs.Verdicts.{header_rules, fit_of}
use Rattle.paper.specs.Listing.{Entry, listing, keys}
use Rattle.paper.specs.Refusals.{check, judge}
use Rattle.paper.specs.Searches.{slot_order, sign_of, scan, find_scan, child_scan}
use Rattle.paper.specs.Calls.{is_width, has_prefix, key_length, prefix_held, inside_fences, find_of, bound_of, compared, compare_of, child_of}
use Rattle.paper.specs.Demand.{page_after, Given, Searched, Demand3}
use Rattle.paper.specs.declared.refusal.Refusal.TheVariants.{KeyLength, SlotNumber}
use Rattle.paper.proofs.Judging.{Passed, size_test, passed-fit, fit_passed}
use Rattle.paper.proofs.Fit.{rules_back, Fit, fit, fit_back}
use Rattle.paper.proofs.Filing.{length-listing, frame-rules}
use Rattle.paper.proofs.Perms.{file_all-holds}
use Rattle.paper.proofs.Searching.{slot-order, key-at, rises, bound-scan, find-scan}
use Rattle.paper.proofs.AnyOrder.{Files, filed, files_perm, listing-alike, header-alike}
use Rattle.paper.specs.declared.refusal.Refusal.{Refusal}

-- ---- searches of a fit page q that has the frame of p
module _ (w : ℕ) (p q : List ℕ) (size : length q ≡ 16384) (b : IsBytes q) (width : is_width w ≡ true) (F : Fit w (view_of w q)) (frame : frame_of q ≡ frame_of p) where
  rules-test : header_rules (frame_of q) (numbers_of q) ≡ true
  rules-test = rules_back (frame_of q) (numbers_of q) (frame-rules w q size F)

  abbrev l : List Entry
  l = listing w q

  bounds : (u : Bool) (k : List ℕ) → IsBytes k → bound_of u w q k ≡ judge (key_length k ∷ []) (Ok (scan u k l)) Err
  unfolding bound_of judge
  bounds u k hk = rw (size_test q size, width, rules-test, bound-scan w q size b F u k hk)

  finds : (k : List ℕ) → IsBytes k → find_of w q k ≡ judge (key_length k ∷ prefix_held p k ∷ []) (find_scan k l) Err
  unfolding find_of judge
  finds k hk =
      let prefix : has_prefix (frame_of q) k ≡ has_prefix (frame_of p) k = rw frame in
      rw (size_test q size, width, rules-test, find-scan w q size b F k hk, prefix)

  compares : (i : ℕ) (k : List ℕ) → IsBytes k
      → compare_of w q i k ≡ judge (key_length k ∷ check (ltb i (length l)) SlotNumber ∷ []) (Ok (sign_of (order (get_or (keys l) i []) k))) Err
  unfolding compare_of judge
  compares i k hk = rw (size_test q size, width, rules-test, length-listing w q) (ap (λ (c : Result ℤ Refusal). pick (leb (length k) 65535) c (Err KeyLength)) (go (dec_lt i (numbers_of q).count)))
    where
      go : Dec (i < (numbers_of q).count)
          → pick (ltb i (numbers_of q).count) (compared (slot_order w q k i)) (Err SlotNumber)
          ≡ pick (ltb i (numbers_of q).count) (Ok (sign_of (order (get_or (keys l) i []) k))) (Err SlotNumber)
      go (yes h) = rw (lt-ltb i (numbers_of q).count h, slot-order w q size b F k hk i h, key-at w q size b F i h []) (unfold compared in refl)
      go (no h) = rw (le-ltb i (numbers_of q).count (omega arith))

  children : (k : List ℕ) → w ≡ 8
      → child_of q k ≡ judge (key_length k ∷ prefix_held p k ∷ inside_fences p k ∷ []) (Ok (child_scan (frame_of p).lower_value k l)) Err
  unfolding child_of judge
  children k e =
      let zero : fit_of 8 q ≡ 0 = rw (← e) fits in
      rw (size_test q size, zero, frame, e)
    where
      fits : fit_of w q ≡ 0
      fits = unfold fit_of in fit_back w (view_of w q) F

  searched : Searched w p q (listing w q)
  searched = record { bound = bounds; find = finds; compare = compares; child = children }

-- ---- the premises as facts
files : (w : ℕ) (p : List ℕ) (es : List Entry) → Given w p es → Files w p es
unfolding fit_of
files w p es G =
    let P = passed-fit w p G.fit in
    record {
      size = P.size;
      bytes = G.bytes;
      width = P.width;
      fit = fit w (view_of w p) P.fit;
      key_bytes = G.key_bytes;
      different = G.different;
      absent = G.absent;
      fenced = G.fenced;
      values = G.values;
      room = G.room;
    }

verdict-zero : (w : ℕ) (q : List ℕ) → length q ≡ 16384 → is_width w ≡ true → Fit w (view_of w q) → Passed w q
unfolding fit_of
verdict-zero w q size width F = record { size = size; width = width; fit = fit_back w (view_of w q) F }

-- ---- demand 3
pub demand3 : Demand3
demand3 w p es fs G d =
    let E = files w p es G in
    let Q = (filed w es p E).1 in
    let R = filed w fs p (files_perm w p es fs d E) in
    let q = page_after w p fs in
    let shows = listing-alike w p (page_after w p es) q es fs d E Q R.1 in
    record {
      accepted = R.0;
      shows = shows;
      rises = rw (← shows) (rises w q R.1.size R.1.bytes R.1.fit);
      holds = file_all-holds es (listing w p);
      fit = fit_passed w q (verdict-zero w q R.1.size E.width R.1.fit);
      header = header-alike w p (page_after w p es) q es fs d E Q R.1;
      searches = rw (← shows) (searched w p q R.1.size R.1.bytes E.width R.1.fit R.1.frame);
    }
