-- Run copy, the call: what its tests say of destination and run, that the run's keys are bytes and its values fit since they were read, and so
-- what the page holds afterwards. Assumes nothing.
use Rattle.std.proofs.Common.{◌≡◌, refl, Bool, true, false, List, [], ◌∷◌, ◌++◌, map, append-nil, ℕ, zero, suc, ◌+◌, ◌*◌, ◌-◌, ◌^◌, ◌≤◌, ◌<◌, arith, eqb-true, leb-true, lt-ltb, le-leb, eq-eqb, ne_eqb, leb, eqb, length, take, drop, get_or, get_or-drop, Ok, Err}
use Rattle.octets.specs.Bytes.{IsBytes, le, part, big_bytes}
use Rattle.octets.proofs.Put.{append-bytes, take-bytes, part_bytes}
use Rattle.octets.proofs.Little.{le-lt}
use Rattle.octets.proofs.Big.{big_bytes-bytes}
use Rattle.keys.specs.Choice.{pick, both}
use Rattle.paper.specs.Lists.{tab, all, sum, less, below_first, rising}
use Rattle.paper.specs.Page.{place, slot_of, prefix_of, suffix_of, value_at, Row, row_of, frame_of, numbers_of, hints_of, view_of}
use Rattle.paper.specs.Space.{payload_bytes, free}
use Rattle.paper.specs.Hints.{in_use}
use Rattle.paper.specs.Verdicts.{inside, fit_of, fit_view}
use Rattle.paper.specs.Listing.{Entry, entry_of, listing, keys}
use Rattle.paper.specs.Refusals.{Check, judge}
use Rattle.paper.specs.Edits.{run_copied}
use Rattle.paper.specs.Searches.{probe_suffix}
use Rattle.paper.specs.Calls.{is_width, fits_width, has_prefix, run, entry_checks, above_last, need_of_all, run_checks, run_of, run_page, fit_verdict}
use Rattle.paper.specs.Views.{run_view}
use Rattle.paper.specs.declared.page.Slot.{Slot}
use Rattle.paper.proofs.Lists.{all_parts, both_parts, both_yes}
use Rattle.paper.proofs.Fit.{Fit, fit, fit_back, effective-used, length-rows, placed}
use Rattle.paper.proofs.Judging.{passed-fit, fit_passed}
use Rattle.paper.proofs.Holding.{all_hold, Hold, judge_hold}
use Rattle.paper.proofs.Filing.{keys-listing, frame-rules}
use Rattle.paper.proofs.Searching.{rises}
use Rattle.paper.proofs.Copying.{Appends, run_square, length_run, run-bytes}
use Rattle.paper.proofs.CopyingFit.{Grown, Runs, run-view-fit, run-view_list, run_grown, run-hints}

-- ---- a run on a fit page
pub record Copies (w : ℕ) (p : List ℕ) (es : List Entry) : Type 0 where
  pub size : length p ≡ 16384
  pub bytes : IsBytes p
  pub fit : Fit w (view_of w p)
  pub key_bytes : (i : ℕ) → IsBytes (get_or es i (record { key = []; value = 0 })).key
  pub values : all (λ e. fits_width w e.value) es ≡ true
  pub prefixed : all (λ e. has_prefix (frame_of p) e.key) es ≡ true
  pub fenced : all (λ e. inside (frame_of p) e.key) es ≡ true
  pub rises : rising (keys (listing w p) ++ keys es) ≡ true
  pub room : need_of_all w p es ≤ free (numbers_of p)

-- what the header of the page q says after the run es was copied to p
pub record RunHeader (w : ℕ) (p : List ℕ) (es : List Entry) (q : List ℕ) : Type 0 where
  pub frame : frame_of q ≡ frame_of p
  pub count : (numbers_of q).count ≡ (numbers_of p).count + length es
  pub start : (numbers_of q).start ≡ (numbers_of p).start + 8 * length es
  pub end : (numbers_of q).end ≡ (numbers_of p).end - sum (λ e. payload_bytes w (length (probe_suffix (frame_of p) e.key))) es
  pub effective : (numbers_of q).effective ≡ (numbers_of p).effective + need_of_all w p es
  pub hints : in_use (frame_of p).flag (numbers_of q).count ≡ false → hints_of q ≡ hints_of p

module _ (w : ℕ) (p : List ℕ) (es : List Entry) (C : Copies w p es) where
  abbrev q : List ℕ
  q = run_copied w p es

  -- effective never exceeds used, so it stays within its bound
  effective-most : (numbers_of p).effective + (numbers_of p).end ≤ 16352 + (numbers_of p).start
  unfolding view_of
  effective-most = effective-used w (view_of w p) C.fit (length-rows w p)

  -- room as a sum
  roomy : (numbers_of p).start + need_of_all w p es ≤ (numbers_of p).end
  roomy = omega (arith, C.room, (frame-rules w p C.size C.fit).order)

  -- what the pages ask
  pub appends : Appends w p es
  appends =
      let R = frame-rules w p C.size C.fit in
      record {
        size = C.size;
        bytes = C.bytes;
        start = R.start;
        top = R.top;
        room = roomy;
        effective = omega (arith, roomy, effective-most);
        placed = placed w p C.fit;
        key_bytes = C.key_bytes;
        values = C.values;
      }

  -- a view has as many rows as its count says
  counted : length (view_of w p).rows ≡ (view_of w p).numbers.count
  unfolding view_of
  counted = length-rows w p

  -- the page is the run copy on its view
  square : view_of w q ≡ run_view w (view_of w p) es
  square = run_square w p es appends

  -- what the views ask
  runs : Runs w (view_of w p) es
  unfolding view_of
  runs = record { prefixed = C.prefixed; fenced = C.fenced; rises = rw keys-listing at C.rises; room = unfold need_of_all in roomy }

  -- the page is fit again
  pub run-fit : Fit w (view_of w (run_copied w p es))
  run-fit = rw square (run-view-fit w es (view_of w p) C.fit counted runs)

  -- its listing is the old one and then the run
  pub run-listing : listing w (run_copied w p es) ≡ listing w p ++ es
  unfolding listing
  run-listing = rw square (run-view_list w es (view_of w p) counted runs.prefixed)

  -- frame and numbers of the view
  grown : Grown w (view_of w p) es (view_of w q)
  grown = rw square (run_grown w es (view_of w p))

  -- and its hints where none are in use
  old-hints : in_use (view_of w p).frame.flag ((view_of w p).numbers.count + length es) ≡ false → (view_of w q).hints ≡ (view_of w p).hints
  old-hints h = rw square (run-hints w es (view_of w p) h)

  -- and of its header only numbers and hints in use moved
  pub run-header : RunHeader w p es (run_copied w p es)
  unfolding view_of need_of_all
  run-header =
      record {
        frame = grown.frame;
        count = grown.count;
        start = grown.start;
        end = grown.end;
        effective = grown.effective;
        hints = λ h. old-hints (rw grown.count at h);
      }

-- ---- the run: part of the source's listing
-- some of rising records rise
rising-drop : (a : ℕ) (l : List Entry) → rising (keys l) ≡ true → rising (keys (drop a l)) ≡ true
unfolding rising
rising-drop zero l e = e
rising-drop (suc a) [] e = e
rising-drop (suc a) (x ∷ l) e = rising-drop a l (both_parts (below_first x.key (keys l)) (rising (keys l)) e).1

-- the first of some is the first
first-take : (k : List ℕ) (n : ℕ) (l : List Entry) → below_first k (keys l) ≡ true → below_first k (keys (take n l)) ≡ true
unfolding below_first
first-take k zero l e = refl
first-take k (suc n) [] e = refl
first-take k (suc n) (x ∷ l) e = e

-- the first n of rising records rise
rising-take : (n : ℕ) (l : List Entry) → rising (keys l) ≡ true → rising (keys (take n l)) ≡ true
unfolding rising
rising-take zero l e = refl
rising-take (suc n) [] e = refl
rising-take (suc n) (x ∷ l) e =
    let b = both_parts (below_first x.key (keys l)) (rising (keys l)) e in
    both_yes (below_first x.key (keys (take n l))) (rising (keys (take n l))) (first-take x.key n l b.0) (rising-take n l b.1)

module _ {A : Type 0} (f : A → Bool) where
  -- some of what passes passes
  all_drop : (a : ℕ) (l : List A) → all f l ≡ true → all f (drop a l) ≡ true
  unfolding all
  all_drop zero l e = e
  all_drop (suc a) [] e = e
  all_drop (suc a) (x ∷ l) e = all_drop a l (both_parts (f x) (all f l) e).1

  all_take : (n : ℕ) (l : List A) → all f l ≡ true → all f (take n l) ≡ true
  unfolding all
  all_take zero l e = refl
  all_take (suc n) [] e = refl
  all_take (suc n) (x ∷ l) e = let b = both_parts (f x) (all f l) e in both_yes (f x) (all f (take n l)) b.0 (all_take n l b.1)

-- every key is bytes
abbrev pub KeyBytes : List Entry → Type 0
KeyBytes es = (i : ℕ) → IsBytes (get_or es i (record { key = []; value = 0 })).key

-- the keys of some records
key_bytes-take : (n : ℕ) (l : List Entry) → KeyBytes l → KeyBytes (take n l)
key_bytes-take zero l h i k = omega arith
key_bytes-take (suc n) [] h i k = omega arith
key_bytes-take (suc n) (x ∷ l) h zero k = h 0 k
key_bytes-take (suc n) (x ∷ l) h (suc i) k = key_bytes-take n l (λ j. h (suc j)) i k

key_bytes-drop : (a : ℕ) (l : List Entry) → KeyBytes l → KeyBytes (drop a l)
key_bytes-drop a l h i = rw (get_or-drop a l i (record { key = []; value = 0 })) (h (a + i))

-- keys and values of a listing, entry by entry
key_bytes_tab : (n : ℕ) (f : ℕ → Row) (g : Row → Entry) → ((i : ℕ) → IsBytes (g (f i)).key) → KeyBytes (map g (tab n f))
unfolding tab
key_bytes_tab zero f g h i k = omega arith
key_bytes_tab (suc n) f g h zero k = h 0 k
key_bytes_tab (suc n) f g h (suc i) k = key_bytes_tab n (λ j. f (suc j)) g (λ j. h (suc j)) i k

all_tab : (n : ℕ) (f : ℕ → Row) (g : Row → Entry) (t : Entry → Bool) → ((i : ℕ) → t (g (f i)) ≡ true) → all t (map g (tab n f)) ≡ true
unfolding tab all
all_tab zero f g t h = refl
all_tab (suc n) f g t h = both_yes (t (g (f 0))) (all t (map g (tab n (λ j. f (suc j))))) (h 0) (all_tab n (λ j. f (suc j)) g t (λ j. h (suc j)))

-- ---- what is read off bytes
-- a prefix
pub prefix-bytes : (p : List ℕ) → IsBytes p → IsBytes (frame_of p).prefix
unfolding frame_of prefix_of
prefix-bytes p b = go (leb (le 2 p 46) 16)
  where
    go : (t : Bool) → IsBytes (pick t (part (le 2 p 46) p 48) (part (le 2 p 46) p (16352 - le 2 p 46)))
    go true = part_bytes (le 2 p 46) p 48 b
    go false = part_bytes (le 2 p 46) p (16352 - le 2 p 46) b

-- a suffix
pub suffix-bytes : (p : List ℕ) → IsBytes p → (s : Slot) → s.head < 256 ^ 4 → IsBytes (suffix_of p s)
unfolding suffix_of
suffix-bytes p b s h = go (leb s.len 4)
  where
    go : (t : Bool) → IsBytes (pick t (take s.len (big_bytes 4 s.head)) (part s.len p (96 + s.offset)))
    go true = take-bytes s.len (big_bytes 4 s.head) (big_bytes-bytes 4 s.head h)
    go false = part_bytes s.len p (96 + s.offset) b

module _ (w : ℕ) (p : List ℕ) (b : IsBytes p) where
  -- a head fits four bytes
  head-lt : (i : ℕ) → (slot_of p i).head < 256 ^ 4
  unfolding slot_of
  head-lt i = le-lt 4 p (place i + 4) b

  -- the keys of a listing are bytes
  pub listing-keys : KeyBytes (listing w p)
  unfolding listing view_of row_of
  listing-keys =
      key_bytes_tab (numbers_of p).count (λ i. row_of w p (slot_of p i)) (entry_of (frame_of p))
      (λ i. append-bytes (frame_of p).prefix (suffix_of p (slot_of p i)) (prefix-bytes p b) (suffix-bytes p b (slot_of p i) (head-lt i)))

  -- and its values fit the width
  pub listing-values : all (λ e. fits_width w e.value) (listing w p) ≡ true
  unfolding listing view_of row_of fits_width
  listing-values =
      all_tab (numbers_of p).count (λ i. row_of w p (slot_of p i)) (entry_of (frame_of p)) (λ e. fits_width w e.value)
      (λ i. lt-ltb (le w p (value_at (slot_of p i))) (256 ^ w) (le-lt w p (value_at (slot_of p i)) b))

-- ---- rising keys, and rising keys behind them
-- where the first of the second is above the last of the first
rising_join : (l : List (List ℕ)) (k : List ℕ) (m : List (List ℕ)) → rising l ≡ true → rising (k ∷ m) ≡ true
    → pick (eqb (length l) 0) true (less (get_or l (length l - 1) []) k) ≡ true → rising (l ++ k ∷ m) ≡ true
unfolding rising below_first
rising_join [] k m r s h = s
rising_join (x ∷ []) k m r s h = both_yes (less x k) (both (below_first k m) (rising m)) h s
rising_join (x ∷ y ∷ l) k m r s h =
    let b = both_parts (less x y) (both (below_first y l) (rising l)) r in
    let e : suc (suc (length l)) - 1 ≡ suc (length l) = omega arith in
    let f : suc (length l) - 1 ≡ length l = omega arith in
    let c = ne_eqb (suc (suc (length l))) 0 (λ z. omega arith) in
    let d = ne_eqb (suc (length l)) 0 (λ z. omega arith) in
    both_yes (less x y) (rising (y ∷ l ++ k ∷ m)) b.0 (rising_join (y ∷ l) k m b.1 s (rw (d, f) (rw (c, e) at h)))

-- the same of a run and the keys of a page
rising-run : (l : List (List ℕ)) (es : List Entry) → rising l ≡ true → rising (keys es) ≡ true → above_last l es ≡ true → rising (l ++ keys es) ≡ true
unfolding above_last
rising-run l [] r s h = rw (append-nil l) r
rising-run l (e ∷ es) r s h = rising_join l e.key (keys es) r s h

-- ---- the call
-- the tests of the entries
entry_facts : (p : List ℕ) (es : List Entry) → all_hold (entry_checks p es) ≡ true
    → (all (λ e. has_prefix (frame_of p) e.key) es ≡ true) × (all (λ e. inside (frame_of p) e.key) es ≡ true)
unfolding entry_checks all
entry_facts p [] h = (refl, refl)
entry_facts p (e ∷ es) h =
    let a = both_parts (has_prefix (frame_of p) e.key) (both (inside (frame_of p) e.key) (all_hold (entry_checks p es))) h in
    let b = both_parts (inside (frame_of p) e.key) (all_hold (entry_checks p es)) a.1 in
    let n = entry_facts p es b.1 in (
      both_yes (has_prefix (frame_of p) e.key) (all (λ x. has_prefix (frame_of p) x.key) es) a.0 n.0,
      both_yes (inside (frame_of p) e.key) (all (λ x. inside (frame_of p) x.key) es) b.0 n.1,
    )

-- what the tests of a run copy say
pub record RunHolds (w : ℕ) (p q : List ℕ) (a n : ℕ) : Type 0 where
  pub size : length p ≡ 16384
  pub source : length q ≡ 16384
  pub width : is_width w ≡ true
  pub fit : Fit w (view_of w p)
  pub source_fit : Fit w (view_of w q)
  pub there : a + n ≤ (numbers_of q).count
  pub prefixed : all (λ e. has_prefix (frame_of p) e.key) (run w q a n) ≡ true
  pub fenced : all (λ e. inside (frame_of p) e.key) (run w q a n) ≡ true
  pub above : above_last (keys (listing w p)) (run w q a n) ≡ true
  pub room : need_of_all w p (run w q a n) ≤ free (numbers_of p)

-- test 5 as a fact
fit_fact : (w : ℕ) (p : List ℕ) → eqb (fit_of w p) 0 ≡ true → Fit w (view_of w p)
unfolding fit_of
fit_fact w p e = fit w (view_of w p) (eqb-true (fit_view w (view_of w p)) 0 e)

-- the tests as facts
pub run_holds : (w : ℕ) (p q : List ℕ) (a n : ℕ) → Hold (run_checks w p q a n) → RunHolds w p q a n
unfolding run_checks all
run_holds w p q a n h =
    let x1 = both_parts (eqb (length p) 16384) _ h in
    let x2 = both_parts (eqb (length q) 16384) _ x1.1 in
    let x3 = both_parts (is_width w) _ x2.1 in
    let x4 = both_parts (eqb (fit_of w p) 0) _ x3.1 in
    let x5 = both_parts (eqb (fit_of w q) 0) _ x4.1 in
    let x6 = both_parts (leb (a + n) (numbers_of q).count) _ x5.1 in
    let x7 = all_parts (λ (c : Check). c.holds) (entry_checks p (run w q a n)) _ x6.1 in
    let x8 = both_parts (above_last (keys (listing w p)) (run w q a n)) _ x7.1 in
    let x9 = both_parts (leb (need_of_all w p (run w q a n)) (free (numbers_of p))) _ x8.1 in
    let es = entry_facts p (run w q a n) x7.0 in
    record {
      size = eqb-true (length p) 16384 x1.0;
      source = eqb-true (length q) 16384 x2.0;
      width = x3.0;
      fit = fit_fact w p x4.0;
      source_fit = fit_fact w q x5.0;
      there = leb-true (a + n) (numbers_of q).count x6.0;
      prefixed = es.0;
      fenced = es.1;
      above = x8.0;
      room = leb-true (need_of_all w p (run w q a n)) (free (numbers_of p)) x9.0;
    }

module _ (w : ℕ) (p q : List ℕ) (a n : ℕ) (bp : IsBytes p) (bq : IsBytes q) (h : Hold (run_checks w p q a n)) where
  -- the facts
  H : RunHolds w p q a n
  H = run_holds w p q a n h

  -- the run fits the page
  pub run-copies : Copies w p (run w q a n)
  run-copies =
      record {
        size = H.size;
        bytes = bp;
        fit = H.fit;
        key_bytes = key_bytes-take n (drop a (listing w q)) (key_bytes-drop a (listing w q) (listing-keys w q bq));
        values = all_take (λ (e : Entry). fits_width w e.value) n (drop a (listing w q)) (all_drop (λ (e : Entry). fits_width w e.value) a (listing w q) (listing-values w q bq));
        prefixed = H.prefixed;
        fenced = H.fenced;
        rises = rising-run (keys (listing w p)) (run w q a n) (rises w p H.size bp H.fit)
            (rising-take n (drop a (listing w q)) (rising-drop a (listing w q) (rises w q H.source bq H.source_fit))) H.above;
        room = H.room;
      }

  -- run copy is done
  pub run_done : run_of w p q a n ≡ Ok tt
  unfolding run_of
  run_done = judge_hold (run_checks w p q a n) (Ok tt) Err h

  -- and leaves the copied page
  pub run-page : run_page w p q a n ≡ run_copied w p (run w q a n)
  unfolding run_page
  run-page = judge_hold (run_checks w p q a n) (run_copied w p (run w q a n)) (λ r. p) h

  -- the page is fit again
  pub run-verdict : fit_verdict w (run_page w p q a n) ≡ Ok 0
  run-verdict =
      rw run-page
      (fit_passed w (run_copied w p (run w q a n)) (record { size = length_run w p (run w q a n) (appends w p (run w q a n) run-copies); width = H.width; fit = zeroed }))
    where
      zeroed : fit_of w (run_copied w p (run w q a n)) ≡ 0
      zeroed = unfold fit_of in fit_back w (view_of w (run_copied w p (run w q a n))) (run-fit w p (run w q a n) run-copies)

  -- lists the run behind its old entries
  pub run-lists : listing w (run_page w p q a n) ≡ listing w p ++ run w q a n
  run-lists = rw run-page (run-listing w p (run w q a n) run-copies)

  -- has the header that the run says
  pub run-heads : RunHeader w p (run w q a n) (run_page w p q a n)
  run-heads = rw run-page (run-header w p (run w q a n) run-copies)

  -- and holds bytes
  pub run-page-bytes : IsBytes (run_page w p q a n)
  run-page-bytes = rw run-page (run-bytes w p (run w q a n) (appends w p (run w q a n) run-copies))

-- where the answer and every refusal are one
judge_same : {A : Type 0} (cs : List Check) (a : A) → judge cs a (λ r. a) ≡ a
unfolding judge
judge_same [] a = refl
judge_same (c ∷ cs) a = go c.holds (judge_same cs a)
  where
    go : (b : Bool) → judge cs a (λ r. a) ≡ a → pick b (judge cs a (λ r. a)) a ≡ a
    go true e = e
    go false e = refl

-- "n = 0 .. changes nothing"
pub run_none : (w : ℕ) (p q : List ℕ) (a : ℕ) → run_page w p q a 0 ≡ p
unfolding run_page run_copied
run_none w p q a = judge_same (run_checks w p q a 0) p

-- "n = 0 with a up to count is done"
pub run-none_done : (w : ℕ) (p q : List ℕ) (a : ℕ) → fit_verdict w p ≡ Ok 0 → fit_verdict w q ≡ Ok 0 → a ≤ (numbers_of q).count → run_of w p q a 0 ≡ Ok tt
unfolding run_of run_checks judge entry_checks above_last need_of_all sum
run-none_done w p q a e f l =
    let P = passed-fit w p e in
    let Q = passed-fit w q f in
    let x1 = eq-eqb (length p) 16384 P.size in
    let x2 = eq-eqb (length q) 16384 Q.size in
    let x6 = le-leb (a + 0) (numbers_of q).count (omega arith) in
    let x13 = le-leb 0 (free (numbers_of p)) (omega arith) in
    rw (x1, x2, P.width, P.fit, Q.fit, x6, x13)
