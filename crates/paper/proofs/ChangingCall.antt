-- The call that changes a key, where all its tests hold: it is done, the page after it is fit and lists the new key with the old value in
-- its place and all else as it was. On a fit page the tests hold for the key that is there. Assumes nothing.
use Rattle.std.proofs.Common.{◌≡◌, ◌∙◌, true, false, List, [], ◌++◌, ℕ, ◌≤◌, ◌<◌, arith, eqb-true, leb-true, ltb-true, eq-eqb, le-leb, lt-ltb, leb, ltb, eqb, length, get_or, length-append, Ok, Err}
use lib.ListN.{get_or-map}
use lib.Seq.{drop-append_seam}
use Rattle.octets.specs.Bytes.{IsBytes}
use Rattle.octets.proofs.Put.{drop-bytes, append-bytes}
use Rattle.paper.specs.Lists.{swap, all}
use Rattle.paper.specs.Page.{slot_of, suffix_of, frame_of, numbers_of, hints_of, view_of}
use Rattle.paper.specs.Hints.{in_use}
use Rattle.paper.specs.Verdicts.{inside, fit_of, u6}
use Rattle.paper.specs.Listing.{Entry, listing, keys}
use Rattle.paper.specs.Edits.{rekeyed, key_changed}
use Rattle.paper.specs.Searches.{probe_suffix}
use Rattle.paper.specs.Calls.{is_width, has_prefix, between, room_for_key, change_checks, change_of, change_page, fit_verdict}
use Rattle.paper.proofs.Lists.{both_parts, all-at}
use Rattle.paper.proofs.Swaps.{getD-swap-other, swap_self, between_of, rising-amid}
use Rattle.paper.proofs.Same.{le-body_bytes}
use Rattle.paper.proofs.Judging.{fit_passed}
use Rattle.paper.proofs.Fit.{Fit, fit, fit_back, placed}
use Rattle.paper.proofs.Filing.{keys-listing, frame-rules, prefix-length, has-prefix, whole-key}
use Rattle.paper.proofs.Searching.{length_at, bytes-at, key-at, length-keys, rises}
use Rattle.paper.proofs.Holding.{Hold, judge_hold, done_holds}
use Rattle.paper.proofs.Changing.{not-outgrown, length-changed, changed-bytes}
use Rattle.paper.proofs.ChangingFit.{change-frame, change_numbers, change-hints, change-listing, change-fits}
use Rattle.paper.proofs.CopyingCall.{prefix-bytes}

-- what the tests say
pub record Changes (w : ℕ) (p : List ℕ) (i : ℕ) (k : List ℕ) : Type 0 where
  pub size : length p ≡ 16384
  pub width : is_width w ≡ true
  pub key_length : length k ≤ 65535
  pub fit : Fit w (view_of w p)
  pub prefix : has_prefix (frame_of p) k ≡ true
  pub fenced : inside (frame_of p) k ≡ true
  pub there : i < (numbers_of p).count
  pub amidst : between (keys (listing w p)) i k ≡ true
  pub room : room_for_key w p i (probe_suffix (frame_of p) k) ≡ true

pub changes : (w : ℕ) (p : List ℕ) (i : ℕ) (k : List ℕ) → Hold (change_checks w p i k) → Changes w p i k
unfolding change_checks all fit_of
changes w p i k H =
    let a = both_parts (eqb (length p) 16384) _ H in
    let b = both_parts (is_width w) _ a.1 in
    let c = both_parts (leb (length k) 65535) _ b.1 in
    let d = both_parts (eqb (fit_of w p) 0) _ c.1 in
    let e = both_parts (has_prefix (frame_of p) k) _ d.1 in
    let f = both_parts (inside (frame_of p) k) _ e.1 in
    let g = both_parts (ltb i (numbers_of p).count) _ f.1 in
    let h = both_parts (between (keys (listing w p)) i k) _ g.1 in
    let j = both_parts (room_for_key w p i (probe_suffix (frame_of p) k)) _ h.1 in
    record {
      size = eqb-true (length p) 16384 a.0;
      width = b.0;
      key_length = leb-true (length k) 65535 c.0;
      fit = fit w (view_of w p) (eqb-true (fit_of w p) 0 d.0);
      prefix = e.0;
      fenced = f.0;
      there = ltb-true i (numbers_of p).count g.0;
      amidst = h.0;
      room = j.0;
    }

-- and the other way round
pub changes_hold : (w : ℕ) (p : List ℕ) (i : ℕ) (k : List ℕ) → Changes w p i k → Hold (change_checks w p i k)
unfolding change_checks all fit_of
changes_hold w p i k C =
    let a = eq-eqb (length p) 16384 C.size in
    let c = le-leb (length k) 65535 C.key_length in
    let d = fit_back w (view_of w p) C.fit in
    let g = lt-ltb i (numbers_of p).count C.there in
    rw (a, C.width, c, d, C.prefix, C.fenced, g, C.amidst, C.room)

-- a call that was done says that all tests held
pub change_held : (w : ℕ) (p : List ℕ) (i : ℕ) (k : List ℕ) → change_of w p i k ≡ Ok tt → Hold (change_checks w p i k)
unfolding change_of
change_held w p i k e = done_holds (change_checks w p i k) e

module _ (w : ℕ) (p : List ℕ) (i : ℕ) (k : List ℕ) (b : IsBytes p) (hk : IsBytes k) (H : Hold (change_checks w p i k)) where
  abbrev s : List ℕ
  s = probe_suffix (frame_of p) k

  abbrev q : List ℕ
  q = change_page w p i k

  C : Changes w p i k
  C = changes w p i k H

  hs : IsBytes s
  hs = drop-bytes (frame_of p).prefix_len k hk

  whole : (frame_of p).prefix ++ s ≡ k
  whole = whole-key w p C.size C.fit k C.fenced

  -- ---- the answer and the page
  pub change-done : change_of w p i k ≡ Ok tt
  unfolding change_of
  change-done = judge_hold (change_checks w p i k) (Ok tt) Err H

  pub change-page : change_page w p i k ≡ key_changed w p i (probe_suffix (frame_of p) k)
  unfolding change_page
  change-page = judge_hold (change_checks w p i k) (key_changed w p i s) (λ r. p) H

  pub change-size : length q ≡ 16384
  change-size = rw change-page (length-changed w p i s C.size b C.fit C.there hs C.room)

  pub change-bytes : IsBytes q
  change-bytes = rw change-page (changed-bytes w p i s C.size b C.fit C.there hs C.room)

  pub change-page-fit : Fit w (view_of w q)
  change-page-fit =
      rw change-page
      (change-fits w p i s C.size b C.fit C.there hs C.room (rw whole C.fenced) (rw (whole, ← keys-listing w p) C.amidst))

  pub change-verdict : fit_verdict w q ≡ Ok 0
  change-verdict = fit_passed w q (record { size = change-size; width = C.width; fit = unfold fit_of in fit_back w (view_of w q) change-page-fit })

  -- ---- the header
  pub change-page-frame : frame_of q ≡ frame_of p
  change-page-frame = rw change-page (change-frame w p i s C.size b C.fit C.there hs C.room)

  pub change-page-numbers : numbers_of q ≡ rekeyed w (numbers_of p) (slot_of p i) (probe_suffix (frame_of p) k)
  change-page-numbers = rw change-page (change_numbers w p i s C.size b C.fit C.there hs C.room)

  pub change-page-hints : in_use (frame_of p).flag (numbers_of p).count ≡ false → hints_of q ≡ hints_of p
  change-page-hints e = rw change-page (change-hints w p i s C.size b C.fit C.there hs C.room e)

  -- ---- the listing
  -- the new key with the old value
  pub change-shows : (d : Entry) → listing w q ≡ swap i (record { key = k; value = (get_or (listing w p) i d).value }) (listing w p)
  change-shows d = rw change-page (change-listing w p i s C.size b C.fit C.there hs C.room d ∙ rw whole)

  -- and all else as it was
  pub change-elsewhere : (j : ℕ) (d : Entry) → (j ≡ i → ⊥) → get_or (listing w q) j d ≡ get_or (listing w p) j d
  change-elsewhere j d n = rw (change-shows d) (getD-swap-other i (record { key = k; value = (get_or (listing w p) i d).value }) d (listing w p) j n)

-- ---- "the same key again is accepted"
module _ (w : ℕ) (p : List ℕ) (i : ℕ) (size : length p ≡ 16384) (b : IsBytes p) (width : is_width w ≡ true) (F : Fit w (view_of w p)) (h : i < (numbers_of p).count) where
  abbrev own : List ℕ
  own = (frame_of p).prefix ++ suffix_of p (slot_of p i)

  own_is : get_or (keys (listing w p)) i [] ≡ own
  own_is = key-at w p size b F i h []

  own-suffix : probe_suffix (frame_of p) own ≡ suffix_of p (slot_of p i)
  own-suffix = rw (← prefix-length w p size F) (drop-append_seam (frame_of p).prefix (suffix_of p (slot_of p i)))

  own-short : (slot_of p i).len ≤ 16260
  own-short = omega (arith, le-body_bytes 4 (slot_of p i).len, ((placed w p F).rows i h).1)

  own-length : length own ≤ 65535
  own-length =
      let R = frame-rules w p size F in
      omega (
        arith,
        length-append (frame_of p).prefix (suffix_of p (slot_of p i)),
        prefix-length w p size F,
        R.prefix_most,
        length_at w p size b F i h,
        own-short,
      )

  own-fenced : inside (frame_of p) own ≡ true
  own-fenced = rw own_is at (all-at (inside (frame_of p)) (keys (listing w p)) fences i [] (rw (length-keys w p size b F) h))
    where
      fences : all (inside (frame_of p)) (keys (listing w p)) ≡ true
      fences = rw keys-listing (unfold u6 view_of in F.r6)

  own-amidst : between (keys (listing w p)) i own ≡ true
  own-amidst = rw (← own_is) (between_of (keys (listing w p)) i (get_or (keys (listing w p)) i []) (rising-amid (keys (listing w p)) i (rises w p size b F) (rw (length-keys w p size b F) h)))

  own_room : room_for_key w p i (probe_suffix (frame_of p) own) ≡ true
  unfolding room_for_key
  own_room = rw (own-suffix, not-outgrown (slot_of p i) (suffix_of p (slot_of p i)) (omega (arith, length_at w p size b F i h)))

  pub same_key : Hold (change_checks w p i (get_or (keys (listing w p)) i []))
  same_key =
      rw own_is
      (changes_hold w p i own
      (record {
        size = size;
        width = width;
        key_length = own-length;
        fit = F;
        prefix = has-prefix w p size F own own-fenced;
        fenced = own-fenced;
        there = h;
        amidst = own-amidst;
        room = own_room;
      }))

  pub same-key-done : change_of w p i (get_or (keys (listing w p)) i []) ≡ Ok tt
  unfolding change_of
  same-key-done = judge_hold (change_checks w p i (get_or (keys (listing w p)) i [])) (Ok tt) Err same_key

  own-bytes : IsBytes (get_or (keys (listing w p)) i [])
  own-bytes = rw own_is (append-bytes (frame_of p).prefix (suffix_of p (slot_of p i)) (prefix-bytes p b) (bytes-at w p size b F i))

  -- and leaves the listing as it was
  pub same-key-listing : listing w (change_page w p i (get_or (keys (listing w p)) i [])) ≡ listing w p
  same-key-listing =
      let e : Entry = record { key = []; value = 0 } in
      change-shows w p i (get_or (keys (listing w p)) i []) b own-bytes same_key e
      ∙ rw (get_or-map (λ (x : Entry). x.key) (listing w p) i e) (swap_self i e (listing w p))
