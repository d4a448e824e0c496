-- An insert that is accepted leaves a fit page fit, rule by rule. Assumes nothing.
use Rattle.std.proofs.Common.{◌≡◌, refl, ◌∙◌, Bool, true, false, List, ◌++◌, map, ℕ, ◌+◌, ◌-◌, ◌≤◌, arith, eq-eqb, eqb, length}
use lib.ListN.{length-map}
use Rattle.keys.specs.Choice.{pick, both}
use Rattle.keys.specs.Keys.{order, same_list}
use Rattle.keys.proofs.Orders.{same_list_refl}
use Rattle.paper.specs.Lists.{ins, all, pairs, sum, differ}
use Rattle.paper.specs.Page.{Row, Numbers, View, key_of}
use Rattle.paper.specs.Space.{payload_bytes, need, fence_bytes}
use Rattle.paper.specs.Hints.{in_use, fresh}
use Rattle.paper.specs.Verdicts.{payload, frame_pieces, within, apart, inside, keys_of, faithful, head_at, u2, u3, u4, u5, u6, u7, u8, u9}
use Rattle.paper.specs.Edits.{slot_for, more}
use Rattle.paper.specs.Searches.{passed}
use Rattle.paper.specs.Views.{refreshed, row_for, insert_view}
use Rattle.paper.proofs.Lists.{both_parts, both_yes, all-ins, pairs-ins, sum-ins, ins-append, map-ins, all-weaken}
use Rattle.paper.proofs.Sorted.{spot, up_to_le, rising_ins}
use Rattle.paper.proofs.Fit.{within_fact, fact_within, Rules, Fit, apart_sym, new_apart, effective_is, effective-used}

eqb_refl : (n : ℕ) → eqb n n ≡ true
eqb_refl n = eq-eqb n n refl

-- hints that were refreshed are fresh
pub refreshed-fresh : (b : Bool) (h old : List ℕ) → pick b (same_list (pick b h old) h) true ≡ true
refreshed-fresh true h old = same_list_refl h
refreshed-fresh false h old = refl

-- what the suffix s asks of the page
pub record Goes (w : ℕ) (N : View) (s : List ℕ) : Type 0 where
  pub inside : inside N.frame (N.frame.prefix ++ s) ≡ true
  pub absent : all (differ (N.frame.prefix ++ s)) (keys_of N) ≡ true
  pub room : N.numbers.start + 8 + payload_bytes w (length s) ≤ N.numbers.end

module _ (w : ℕ) (N : View) (s : List ℕ) (v : ℕ) (F : Fit w N) (G : Goes w N s) (count : length N.rows ≡ N.numbers.count) where
  abbrev k : List ℕ
  k = N.frame.prefix ++ s

  abbrev i : ℕ
  i = spot k (keys_of N)

  abbrev n : Numbers
  n = more w N.numbers (length s)

  abbrev r : Row
  r = row_for s v n.end

  rules-new : Rules N.frame n
  unfolding more need
  rules-new =
      let R = F.r1 in
      let g = G.room in
      record {
        initialized = R.initialized;
        flag = R.flag;
        start = omega arith;
        order = omega arith;
        top = omega arith;
        low = omega arith;
        high = omega (arith, effective-used w N F count);
        prefix_most = R.prefix_most;
        prefix = λ q. omega (arith, R.prefix q);
        lower = λ q. let x = R.lower q in (omega arith, x.1);
        upper = λ q. let x = R.upper q in (omega arith, x.1);
      }

  new-within : within n.end (payload w r) ≡ true
  unfolding row_for slot_for more payload
  new-within = fact_within (N.numbers.end - payload_bytes w (length s)) (payload w r) (omega arith, omega (arith, F.r1.top, G.room))

  new-below : (payload w r).hi ≤ N.numbers.end
  unfolding row_for slot_for more payload
  new-below = omega (arith, G.room)

  new-faithful : faithful r.slot r.suffix ≡ true
  unfolding faithful row_for slot_for
  new-faithful = rw eqb_refl

  new-key : key_of N.frame r ≡ k
  unfolding row_for
  new-key = refl

  keys-new : map (key_of N.frame) (ins i r N.rows) ≡ ins i k (keys_of N)
  keys-new = map-ins (key_of N.frame) i r N.rows ∙ rw new-key

  new-need : need w r.slot.len ≡ need w (length s)
  unfolding row_for slot_for
  new-need = refl

  below : i ≤ length (map (payload w) N.rows)
  below = rw (length-map N.rows (payload w)) (omega (arith, up_to_le (λ y. passed false (order y k)) (keys_of N), length-map N.rows (key_of N.frame)))

  end_falls : n.end ≤ N.numbers.end
  unfolding more
  end_falls = omega arith

  u2-new : u2 w (insert_view w N i s v) ≡ true
  unfolding u2 insert_view refreshed
  u2-new =
      let P = map (payload w) N.rows in
      rw (map-ins (payload w) i r N.rows, all-ins (within n.end) i (payload w r) P)
      (both_yes (within n.end (payload w r)) (all (within n.end) P) new-within
      (all-weaken (within N.numbers.end) (within n.end) P
      (λ a h. let x = within_fact N.numbers.end a h in fact_within n.end a (omega (arith, end_falls), x.1)) F.r2))

  u3-new : u3 w (insert_view w N i s v) ≡ true
  unfolding u2 u3 insert_view refreshed
  u3-new =
      let P = map (payload w) N.rows in
      rw (map-ins (payload w) i r N.rows, ins-append i (payload w r) P (frame_pieces N.frame) below, pairs-ins apart apart_sym i (payload w r) (P ++ frame_pieces N.frame))
      (both_yes (all (apart (payload w r)) (P ++ frame_pieces N.frame)) (pairs apart (P ++ frame_pieces N.frame))
      (new_apart N.frame N.numbers F.r1 (payload w r) new-below P F.r2) F.r3)

  u4-new : u4 (insert_view w N i s v) ≡ true
  unfolding u4 insert_view refreshed
  u4-new =
      let fences = both (faithful N.frame.lower N.frame.lower_suffix) (faithful N.frame.upper N.frame.upper_suffix) in
      let entries = all (λ (x : Row). faithful x.slot x.suffix) N.rows in
      let old = both_parts fences entries F.r4 in
      rw (all-ins (λ (x : Row). faithful x.slot x.suffix) i r N.rows)
      (both_yes fences (both (faithful r.slot r.suffix) entries) old.0 (both_yes (faithful r.slot r.suffix) entries new-faithful old.1))

  u6-new : u6 (insert_view w N i s v) ≡ true
  unfolding u6 insert_view refreshed
  u6-new =
      rw (keys-new, all-ins (inside N.frame) i k (keys_of N))
      (both_yes (inside N.frame k) (all (inside N.frame) (keys_of N)) G.inside F.r6)

  u7-new : u7 (insert_view w N i s v) ≡ true
  unfolding u7 insert_view refreshed
  u7-new = rw keys-new (rising_ins k (keys_of N) F.r7 G.absent)

  u8-new : u8 w (insert_view w N i s v) ≡ true
  unfolding u8 insert_view refreshed more
  u8-new =
      let fences = fence_bytes N.frame.prefix_len N.frame.lower.len N.frame.upper.len in
      eq-eqb (N.numbers.effective + need w (length s)) (96 + fences + sum (λ (x : Row). need w x.slot.len) (ins i r N.rows))
      (omega (arith, effective_is w N F.r8, sum-ins (λ (x : Row). need w x.slot.len) i r N.rows, new-need))

  pub insert-fit : Fit w (insert_view w N (spot (N.frame.prefix ++ s) (keys_of N)) s v)
  unfolding insert_view refreshed u5 u9
  insert-fit =
      record {
        r1 = rules-new;
        r2 = u2-new;
        r3 = u3-new;
        r4 = u4-new;
        r5 = F.r5;
        r6 = u6-new;
        r7 = u7-new;
        r8 = u8-new;
        r9 = refreshed-fresh (in_use N.frame.flag n.count) (fresh n.count (head_at (ins i r N.rows))) N.hints;
      }
