-- A run copy on views is inserts behind the last slot, one after the other: hints that were refreshed on the way are refreshed again or were
-- never in use. So it leaves a fit page fit, as inserts do, lists the old listing and then the run, and of the header moves the four numbers
-- alone. Assumes nothing.
use Rattle.std.proofs.Common.{◌≡◌, refl, sym, ap, ◌∙◌, Bool, true, false, List, [], ◌∷◌, ◌++◌, map, append_assoc, append-nil, ℕ, suc, ◌+◌, ◌*◌, ◌-◌, ◌≤◌, arith, length, take, take-append-drop}
use mathlib.Core.List.{map-append}
use lib.ListN.{length-map}
use Rattle.keys.specs.Choice.{pick, both}
use Rattle.keys.specs.Keys.{order}
use Rattle.keys.proofs.Orders.{same_list_eq}
use Rattle.paper.specs.Lists.{ins, all, sum, up_to, less, differ, below_first, rising}
use Rattle.paper.specs.Page.{Row, Frame, View, key_of}
use Rattle.paper.specs.Space.{payload_bytes, need}
use Rattle.paper.specs.Hints.{in_use, fresh}
use Rattle.paper.specs.Verdicts.{inside, keys_of, head_at}
use Rattle.paper.specs.Listing.{Entry, entry_of, keys}
use Rattle.paper.specs.Edits.{more}
use Rattle.paper.specs.Searches.{passed, probe_suffix}
use Rattle.paper.specs.Calls.{has_prefix}
use Rattle.paper.specs.Views.{refreshed, row_for, insert_view, append_view, run_view}
use Rattle.paper.proofs.Lists.{both_parts, both_yes, all-weaken, length-ins}
use Rattle.paper.proofs.Sorted.{less_trans, differ_sym, passed-less, spot}
use Rattle.paper.proofs.Fit.{Fit}
use Rattle.paper.proofs.AnyOrder.{not-used}
use Rattle.paper.proofs.InsertFit.{Goes, insert-fit}
use Rattle.paper.proofs.Copying.{ins_end}

-- ---- keys that rise
-- a key above all of them belongs behind them
pub spot-end : (k : List ℕ) (l : List (List ℕ)) → all (λ y. less y k) l ≡ true → spot k l ≡ length l
unfolding all up_to
spot-end k [] e = refl
spot-end k (y ∷ l) e =
    let b = both_parts (less y k) (all (λ x. less x k) l) e in
    let p : passed false (order y k) ≡ true = passed-less y k ∙ b.0 in
    rw p (ap suc (spot-end k l b.1))

-- keys in order differ
pub less-differ : (k y : List ℕ) → less y k ≡ true → differ k y ≡ true
less-differ k y e = differ_sym k y ∙ first e
  where
    first : less y k ≡ true → differ y k ≡ true
    first e = unfold differ in rw e

-- of rising keys each is above all before it
pub rising-above : (l : List (List ℕ)) (k : List ℕ) (m : List (List ℕ)) → rising (l ++ k ∷ m) ≡ true → all (λ y. less y k) l ≡ true
unfolding rising below_first all
rising-above [] k m e = refl
rising-above (x ∷ []) k m e = both_yes (less x k) true (both_parts (less x k) (both (below_first k m) (rising m)) e).0 refl
rising-above (x ∷ y ∷ l) k m e =
    let b = both_parts (less x y) (both (below_first y (l ++ k ∷ m)) (rising (l ++ k ∷ m))) e in
    let n = rising-above (y ∷ l) k m b.1 in
    both_yes (less x k) (both (less y k) (all (λ z. less z k) l))
    (less_trans x y k b.0 (both_parts (less y k) (all (λ z. less z k) l) n).0) n

-- ---- one entry more
module _ (w : ℕ) where
  -- an insert behind the last slot
  unfoldable pub stepView : View → Entry → View
  stepView N e = insert_view w N N.numbers.count (probe_suffix N.frame e.key) e.value

  -- the same without the hints
  unfoldable pub bareView : View → Entry → View
  bareView N e =
      let n = more w N.numbers (length (probe_suffix N.frame e.key)) in
      record { frame = N.frame; numbers = n; hints = N.hints; rows = ins N.numbers.count (row_for (probe_suffix N.frame e.key) e.value n.end) N.rows }

-- a view with other hints
unfoldable pub with_hints : View → List ℕ → View
with_hints N h = record { frame = N.frame; numbers = N.numbers; hints = h; rows = N.rows }

-- hints do not matter to what is appended
append-hints : (w : ℕ) (es : List Entry) (N : View) (h : List ℕ) → append_view w (with_hints N h) es ≡ with_hints (append_view w N es) h
unfolding append_view with_hints bareView
append-hints w [] N h = refl
append-hints w (e ∷ es) N h = append-hints w es (bareView w N e) h

-- what M is after es were appended to N
pub record Grown (w : ℕ) (N : View) (es : List Entry) (M : View) : Type 0 where
  pub frame : M.frame ≡ N.frame
  pub count : M.numbers.count ≡ N.numbers.count + length es
  pub start : M.numbers.start ≡ N.numbers.start + 8 * length es
  pub end : M.numbers.end ≡ N.numbers.end - sum (λ e. payload_bytes w (length (probe_suffix N.frame e.key))) es
  pub effective : M.numbers.effective ≡ N.numbers.effective + sum (λ e. need w (length (probe_suffix N.frame e.key))) es

-- frame and numbers of a view that entries were appended to
pub append_grown : (w : ℕ) (es : List Entry) (N : View) → Grown w N es (append_view w N es)
unfolding append_view sum bareView more
append_grown w [] N = record { frame = refl; count = omega arith; start = omega arith; end = omega arith; effective = omega arith }
append_grown w (e ∷ es) N =
    let G = append_grown w es (bareView w N e) in
    record { frame = G.frame; count = omega (arith, G.count); start = omega (arith, G.start); end = omega (arith, G.end); effective = omega (arith, G.effective) }

-- its hints are the old ones
append_old : (w : ℕ) (es : List Entry) (N : View) → (append_view w N es).hints ≡ N.hints
unfolding append_view bareView
append_old w [] N = refl
append_old w (e ∷ es) N = append_old w es (bareView w N e)

-- other hints do not matter where they are refreshed, nor where they are the same
refreshed-hints : (M : View) (h : List ℕ) → (in_use M.frame.flag M.numbers.count ≡ false → M.hints ≡ h)
    → refreshed M M.numbers M.rows ≡ refreshed (with_hints M h) M.numbers M.rows
unfolding refreshed with_hints
refreshed-hints M h f =
    let same = go (in_use M.frame.flag M.numbers.count) f in λ k. record { frame = M.frame; numbers = M.numbers; hints = same k; rows = M.rows }
  where
    go : (b : Bool) → (b ≡ false → M.hints ≡ h) → pick b (fresh M.numbers.count (head_at M.rows)) M.hints ≡ pick b (fresh M.numbers.count (head_at M.rows)) h
    go true f = refl
    go false f = f refl

-- the hints that an insert leaves
step_hints : (w : ℕ) (N : View) (e : Entry) → stepView w N e ≡ with_hints (bareView w N e) (stepView w N e).hints
unfolding stepView bareView with_hints insert_view refreshed
step_hints w N e = refl

-- which are the old ones where none are in use
step_old : (w : ℕ) (N : View) (e : Entry) → in_use N.frame.flag (N.numbers.count + 1) ≡ false → (stepView w N e).hints ≡ N.hints
unfolding stepView insert_view refreshed more
step_old w N e h = rw h

module _ (w : ℕ) (N : View) (e x : Entry) (es : List Entry) where
  abbrev M : View
  M = append_view w (bareView w N e) (x ∷ es)

  -- hints that the insert would refresh are not in use, or will be refreshed again
  hints-later : in_use M.frame.flag M.numbers.count ≡ false → M.hints ≡ (stepView w N e).hints
  unfolding bareView more
  hints-later h =
      let G = append_grown w (x ∷ es) (bareView w N e) in
      let f : M.frame ≡ N.frame = G.frame in
      let k : in_use N.frame.flag M.numbers.count ≡ false = rw f at h in
      append_old w (x ∷ es) (bareView w N e) ∙ sym (step_old w N e (not-used N.frame.flag (N.numbers.count + 1) M.numbers.count (omega (arith, G.count)) k))

  -- appending after the insert is appending without it, but for the hints
  views-later : with_hints M (stepView w N e).hints ≡ append_view w (stepView w N e) (x ∷ es)
  views-later = sym (append-hints w (x ∷ es) (bareView w N e) (stepView w N e).hints) ∙ ap (λ (K : View). append_view w K (x ∷ es)) (sym (step_hints w N e))

  -- so refreshing at the end is one and the same
  run_more : refreshed M M.numbers M.rows
      ≡ refreshed (append_view w (stepView w N e) (x ∷ es)) (append_view w (stepView w N e) (x ∷ es)).numbers (append_view w (stepView w N e) (x ∷ es)).rows
  run_more = refreshed-hints M (stepView w N e).hints hints-later ∙ later
    where
      later : refreshed (with_hints M (stepView w N e).hints) M.numbers M.rows
          ≡ refreshed (append_view w (stepView w N e) (x ∷ es)) (append_view w (stepView w N e) (x ∷ es)).numbers (append_view w (stepView w N e) (x ∷ es)).rows
      later = unfold with_hints in ap (λ (K : View). refreshed K K.numbers K.rows) views-later

-- a run is an insert of its first entry and a run of the others
pub run-fold : (w : ℕ) (N : View) (e : Entry) (es : List Entry) → run_view w N (e ∷ es) ≡ run_view w (stepView w N e) es
unfolding run_view append_view stepView bareView insert_view refreshed
run-fold w N e [] = refl
run-fold w N e (x ∷ es) = run_more w N e x es

-- ---- what a run asks of a view
pub record Runs (w : ℕ) (N : View) (es : List Entry) : Type 0 where
  pub prefixed : all (λ e. has_prefix N.frame e.key) es ≡ true
  pub fenced : all (λ e. inside N.frame e.key) es ≡ true
  pub rises : rising (keys_of N ++ keys es) ≡ true
  pub room : N.numbers.start + sum (λ e. need w (length (probe_suffix N.frame e.key))) es ≤ N.numbers.end

-- a key that has the prefix is the prefix and its suffix
pub prefix_whole : (f : Frame) (k : List ℕ) → has_prefix f k ≡ true → f.prefix ++ probe_suffix f k ≡ k
unfolding has_prefix
prefix_whole f k e = rw (← same_list_eq (take f.prefix_len k) f.prefix e) (take-append-drop f.prefix_len k)

-- an insert behind the last slot: the frame stays, and there is one row more
frame_step : (w : ℕ) (N : View) (e : Entry) → (stepView w N e).frame ≡ N.frame
unfolding stepView insert_view refreshed
frame_step w N e = refl

rows_step : (w : ℕ) (N : View) (e : Entry) → length N.rows ≡ N.numbers.count → length (stepView w N e).rows ≡ (stepView w N e).numbers.count
unfolding stepView insert_view refreshed more
rows_step w N e c =
    let s = probe_suffix N.frame e.key in
    length-ins N.numbers.count (row_for s e.value (N.numbers.end - payload_bytes w (length s))) N.rows ∙ omega (arith, c)

-- it lists its entry last
list_step : (w : ℕ) (N : View) (e : Entry) → length N.rows ≡ N.numbers.count → has_prefix N.frame e.key ≡ true
    → map (entry_of N.frame) (stepView w N e).rows ≡ map (entry_of N.frame) N.rows ++ e ∷ []
unfolding stepView insert_view refreshed row_for
list_step w N e c h =
    let s : List ℕ = probe_suffix N.frame e.key in
    let r : Row = row_for s e.value (more w N.numbers (length s)).end in
    let x : entry_of N.frame r ≡ e = λ i. record { key = prefix_whole N.frame e.key h i; value = e.value } in
    rw (ins_end r N.rows N.numbers.count c) (map-append (entry_of N.frame) N.rows (r ∷ []) ∙ rw x)

-- the keys of the entries are those of the rows
keys_list : (f : Frame) (l : List Row) → keys (map (entry_of f) l) ≡ map (key_of f) l
keys_list f [] = refl
keys_list f (r ∷ l) = ap (λ (m : List (List ℕ)). key_of f r ∷ m) (keys_list f l)

module _ (w : ℕ) (N : View) (e : Entry) (es : List Entry) (F : Fit w N) (c : length N.rows ≡ N.numbers.count) (R : Runs w N (e ∷ es)) where
  abbrev s : List ℕ
  s = probe_suffix N.frame e.key

  -- the first entry has the prefix
  held : has_prefix N.frame e.key ≡ true
  unfolding all
  held = (both_parts (has_prefix N.frame e.key) (all (λ x. has_prefix N.frame x.key) es) R.prefixed).0

  -- and so its key is the prefix and its suffix
  whole : N.frame.prefix ++ s ≡ e.key
  whole = prefix_whole N.frame e.key held

  -- it lies above every key of the page
  above : all (λ y. less y e.key) (keys_of N) ≡ true
  above = rising-above (keys_of N) e.key (keys es) R.rises

  -- which is all that an insert asks
  goes : Goes w N s
  unfolding all sum need
  goes =
      record {
        inside = rw whole (both_parts (inside N.frame e.key) (all (λ x. inside N.frame x.key) es) R.fenced).0;
        absent = rw whole (all-weaken (λ y. less y e.key) (differ e.key) (keys_of N) (less-differ e.key) above);
        room = omega (arith, R.room);
      }

  -- it belongs behind the last slot
  last : spot (N.frame.prefix ++ s) (keys_of N) ≡ N.numbers.count
  last = rw whole (spot-end e.key (keys_of N) above ∙ length-map N.rows (key_of N.frame) ∙ c)

  -- the view after it is fit
  fit-step : Fit w (stepView w N e)
  unfolding stepView
  fit-step = rw last at (insert-fit w N s e.value F goes c)

  -- its keys are the old ones and the new one
  keys_step : map (key_of N.frame) (stepView w N e).rows ≡ keys_of N ++ e.key ∷ []
  keys_step =
      sym (keys_list N.frame (stepView w N e).rows)
      ∙ ap keys (list_step w N e c held)
      ∙ map-append (λ (x : Entry). x.key) (map (entry_of N.frame) N.rows) (e ∷ [])
      ∙ rw (keys_list N.frame N.rows)

  -- they rise with those of the other entries
  rises-step : rising (keys_of (stepView w N e) ++ keys es) ≡ true
  rises-step = rw (frame_step w N e, keys_step, append_assoc (keys_of N) (e.key ∷ []) (keys es)) R.rises

  -- and the other entries may be appended to it
  runs-step : Runs w (stepView w N e) es
  unfolding stepView insert_view refreshed more all sum need
  runs-step =
      record {
        prefixed = (both_parts (has_prefix N.frame e.key) (all (λ x. has_prefix N.frame x.key) es) R.prefixed).1;
        fenced = (both_parts (inside N.frame e.key) (all (λ x. inside N.frame x.key) es) R.fenced).1;
        rises = rises-step;
        room = omega (arith, R.room);
      }

-- ---- a fit view is fit again
pub run-view-fit : (w : ℕ) (es : List Entry) (N : View) → Fit w N → length N.rows ≡ N.numbers.count → Runs w N es → Fit w (run_view w N es)
run-view-fit w [] N F c R = unfold run_view in F
run-view-fit w (e ∷ es) N F c R =
    rw (run-fold w N e es) (run-view-fit w es (stepView w N e) (fit-step w N e es F c R) (rows_step w N e c) (runs-step w N e es F c R))

-- ---- and lists the run behind its old entries
pub run-view_list : (w : ℕ) (es : List Entry) (N : View) → length N.rows ≡ N.numbers.count → all (λ e. has_prefix N.frame e.key) es ≡ true
    → map (entry_of (run_view w N es).frame) (run_view w N es).rows ≡ map (entry_of N.frame) N.rows ++ es
unfolding all run_view
run-view_list w [] N c h = sym (append-nil (map (entry_of N.frame) N.rows))
run-view_list w (e ∷ es) N c h =
    let b = both_parts (has_prefix N.frame e.key) (all (λ x. has_prefix N.frame x.key) es) h in
    let next = run-view_list w es (stepView w N e) (rows_step w N e c) (rw frame_step b.1) in
    rw (run-fold w N e es)
    (next ∙ rw (frame_step w N e, list_step w N e c b.0) (append_assoc (map (entry_of N.frame) N.rows) (e ∷ []) es))

-- ---- its frame and its numbers
pub run_grown : (w : ℕ) (es : List Entry) (N : View) → Grown w N es (run_view w N es)
unfolding run_view append_view refreshed
run_grown w [] N = append_grown w [] N
run_grown w (e ∷ es) N =
    let G = append_grown w (e ∷ es) N in
    record { frame = G.frame; count = G.count; start = G.start; end = G.end; effective = G.effective }

-- hints that are not in use after it keep
pub run-hints : (w : ℕ) (es : List Entry) (N : View) → in_use N.frame.flag (N.numbers.count + length es) ≡ false → (run_view w N es).hints ≡ N.hints
unfolding run_view refreshed
run-hints w [] N h = refl
run-hints w (e ∷ es) N h = let G = append_grown w (e ∷ es) N in rw (G.frame, G.count, h) (append_old w (e ∷ es) N)
