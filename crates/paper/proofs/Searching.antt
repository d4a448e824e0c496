-- On a fit page every search is a scan of the listing: a visited slot stands to a probe as its key does, fresh hints hold the answer in
-- their window, and halving finds it there. Assumes nothing.
use Rattle.std.proofs.Common.{◌≡◌, refl, sym, ap, ◌∙◌, Bool, true, false, List, [], ◌++◌, map, ℕ, zero, suc, ◌+◌, ◌*◌, ◌^◌, ◌≤◌, ◌<◌, add-one, arith, eqb-true, leb-true, leb-false, ltb-true, le-leb, lt-ltb, le-ltb, eq-eqb, ne_eqb, leb, ltb, eqb, length, take, drop, get_or, length-take-le, Result, Ok}
use Rattle.std.proofs.lemmas.Bool.{both_ways}
use Rattle.std.proofs.lemmas.List.{get_or_default}
use native.Mathlib.Decide.{dec_le, dec_lt}
use borrow.Author.Tests.{lt-leb}
use lib.ListN.{length-map, get_or-map}
use Rattle.octets.specs.Bytes.{IsBytes, part, big_bytes}
use Rattle.octets.proofs.Part.{length-part-le}
use Rattle.octets.proofs.Put.{take-bytes, drop-bytes, part_bytes}
use Rattle.octets.proofs.Little.{le-lt}
use Rattle.octets.proofs.Big.{length-big_bytes, big_bytes-bytes}
use Rattle.keys.specs.Choice.{pick}
use Rattle.keys.specs.Keys.{order, head_of}
use Rattle.keys.proofs.Numbers.{by_number-lt}
use Rattle.keys.proofs.Orders.{order_same, same_order, order_below}
use Rattle.keys.proofs.Heads.{head-differ}
use Rattle.paper.specs.Lists.{tab, all, differ, rising}
use Rattle.paper.specs.Page.{place, slot_of, suffix_of, Row, row_of, frame_of, numbers_of, hints_of, view_of, key_of}
use Rattle.paper.specs.Hints.{in_use, window, fresh, first_hint, window_low, window_high}
use Rattle.paper.specs.Verdicts.{slot_payload, within, keys_of, faithful, head_at, u7}
use Rattle.paper.specs.Listing.{Entry, listing, keys}
use Rattle.paper.specs.Searches.{visit, class_of, probe_suffix, by_class, slot_meets, slot_order, passed, turn, search, bound_in, bound_by, bound, tested, find_at, scan, find_scan}
use Rattle.paper.proofs.Lists.{both_parts, both_yes, length-tab, getD-tab, all-at, all_of}
use Rattle.paper.proofs.Sorted.{up_to_le, order-less, differ_same, differ_no, differ_sym}
use Rattle.paper.proofs.Same.{body_bytes_long}
use Rattle.paper.proofs.Stages.{hint_slot, head_at-rows}
use Rattle.paper.proofs.Fit.{Fit, placed}
use Rattle.paper.proofs.Filing.{keys-listing, length-listing, prefix-length}
use Rattle.paper.proofs.HeaderBytes.{entries-faithful, hints-fresh}
use Rattle.paper.proofs.Halving.{halving_to, up_to_before, up_to_after, passed_below, passed-above, passed_falls, first_hint-le, first_hint-before, first_hint-here}
use Rattle.paper.proofs.Meeting.{slot-meets, by_class_lem}
use Rattle.std.specs.declared.cmp.Ordering.{Ordering}
use Rattle.std.specs.declared.cmp.Ordering.TheVariants.{Less, Equal, Greater}
use Rattle.paper.specs.declared.refusal.Refusal.{Refusal}
use Rattle.paper.specs.declared.answers.Found.{Found}
use Rattle.paper.specs.declared.answers.Found.TheVariants.{Equal as Found-as-Equal, Smaller}

pub get_d_any : {A : Type 0} (l : List A) (i : ℕ) (d e : A) → i < length l → get_or l i d ≡ get_or l i e
get_d_any l i d e h = get_or_default l i d e h

fresh_at : (n : ℕ) (head : ℕ → ℕ) (j : ℕ) → j < 8 → get_or (fresh n head) j 0 ≡ head ((j + 1) * window n)
unfolding fresh
fresh_at n head j h = getD-tab 8 (λ i. head ((i + 1) * window n)) j 0 h

-- heads that are below decide
head_below : (a b : List ℕ) → IsBytes a → IsBytes b → head_of a < head_of b → order a b ≡ Less
head_below a b ha hb l = head-differ a b ha hb (λ e. omega arith) ∙ by_number-lt (head_of a) (head_of b) Equal l

module _ (w : ℕ) (p : List ℕ) (size : length p ≡ 16384) (b : IsBytes p) (F : Fit w (view_of w p)) where
  abbrev n : ℕ
  n = (numbers_of p).count

  abbrev pre : List ℕ
  pre = (frame_of p).prefix

  abbrev S : ℕ → List ℕ
  S i = suffix_of p (slot_of p i)

  abbrev f : ℕ → Row
  f i = row_of w p (slot_of p i)

  -- ---- a slot
  row-head : (i : ℕ) → i < n → head_at (view_of w p).rows i ≡ (slot_of p i).head
  unfolding view_of
  row-head i h = head_at-rows w p n i h

  faithful-at : (i : ℕ) → i < n → (slot_of p i).head ≡ head_of (S i)
  faithful-at i h = eqb-true (slot_of p i).head (head_of (S i)) here
    where
      here : eqb (slot_of p i).head (head_of (S i)) ≡ true
      here = unfold view_of row_of faithful in
          rw (getD-tab n f i (f i) h) at
          (all-at (λ (r : Row). faithful r.slot r.suffix) (tab n f) (entries-faithful w (view_of w p) F) i (f i) (rw (length-tab n f) h))

  held_at : (i : ℕ) → i < n → within (numbers_of p).end (slot_payload w (slot_of p i)) ≡ true
  unfolding within
  held_at i h =
      let x = (placed w p F).rows i h in
      both_yes (leb (numbers_of p).end (slot_payload w (slot_of p i)).lo) (leb (slot_payload w (slot_of p i)).hi 16256)
      (le-leb (numbers_of p).end (slot_payload w (slot_of p i)).lo x.0) (le-leb (slot_payload w (slot_of p i)).hi 16256 x.1)

  pub length_at : (i : ℕ) → i < n → (slot_of p i).len ≡ length (S i)
  unfolding suffix_of
  length_at i h = go (dec_le (slot_of p i).len 4)
    where
      go : Dec ((slot_of p i).len ≤ 4)
          → (slot_of p i).len ≡ length (pick (leb (slot_of p i).len 4) (take (slot_of p i).len (big_bytes 4 (slot_of p i).head)) (part (slot_of p i).len p (96 + (slot_of p i).offset)))
      go (yes k) =
          rw (le-leb (slot_of p i).len 4 k)
          (sym (length-take-le (slot_of p i).len (big_bytes 4 (slot_of p i).head) (rw (length-big_bytes 4 (slot_of p i).head) k)))
      go (no k) =
          let x = (placed w p F).rows i h in
          rw (lt-leb (slot_of p i).len 4 (omega arith))
          (sym (length-part-le (slot_of p i).len p (96 + (slot_of p i).offset) (omega (arith, body_bytes_long 4 (slot_of p i).len (omega arith)))))

  pub bytes-at : (i : ℕ) → IsBytes (S i)
  unfolding suffix_of
  bytes-at i = go (leb (slot_of p i).len 4)
    where
      head-lt : (slot_of p i).head < 256 ^ 4
      head-lt = unfold slot_of in le-lt 4 p (place i + 4) b

      go : (t : Bool) → IsBytes (pick t (take (slot_of p i).len (big_bytes 4 (slot_of p i).head)) (part (slot_of p i).len p (96 + (slot_of p i).offset)))
      go true = take-bytes (slot_of p i).len (big_bytes 4 (slot_of p i).head) (big_bytes-bytes 4 (slot_of p i).head head-lt)
      go false = part_bytes (slot_of p i).len p (96 + (slot_of p i).offset) b

  long-at : (i : ℕ) → 4 < (slot_of p i).len → part (slot_of p i).len p (96 + (slot_of p i).offset) ≡ S i
  unfolding suffix_of
  long-at i k = rw (lt-leb (slot_of p i).len 4 k)

  -- a visited slot stands to a probe as its key does
  pub slot-order : (k : List ℕ) → IsBytes k → (i : ℕ) → i < n → slot_order w p k i ≡ Ok (order (pre ++ S i) k)
  unfolding slot_order visit class_of
  slot-order k hk i h =
      let s = probe_suffix (frame_of p) k in
      let met : slot_meets p (slot_of p i) s ≡ order (S i) s =
      slot-meets (slot_of p i) p s (S i) (bytes-at i) (drop-bytes (frame_of p).prefix_len k hk) (length_at i h) (faithful-at i h) (long-at i) in
      let len = prefix-length w p size F in
      rw (held_at i h, met, ← len) (ap Ok (by_class_lem pre (S i) k))

  -- ---- the listing's keys
  pub key-at : (i : ℕ) → i < n → (d : List ℕ) → get_or (keys (listing w p)) i d ≡ pre ++ S i
  key-at i h d = rw keys-listing here
    where
      here : get_or (keys_of (view_of w p)) i d ≡ pre ++ S i
      here = unfold view_of row_of in
          get_d_any (map (key_of (frame_of p)) (tab n f)) i d (key_of (frame_of p) (f i)) (rw (length-map (tab n f) (key_of (frame_of p)), length-tab n f) h)
          ∙ get_or-map (key_of (frame_of p)) (tab n f) i (f i)
          ∙ ap (key_of (frame_of p)) (getD-tab n f i (f i) h)

  pub length-keys : length (keys (listing w p)) ≡ n
  length-keys = length-map (listing w p) (λ (e : Entry). e.key) ∙ length-listing w p

  pub rises : rising (keys (listing w p)) ≡ true
  unfolding u7
  rises = rw keys-listing F.r7

  -- ---- the place where the answers part
  module _ (u : Bool) (k : List ℕ) where
    abbrev r : ℕ
    r = scan u k (listing w p)

    pub r-le : r ≤ n
    r-le = omega (arith, up_to_le (λ y. passed u (order y k)) (keys (listing w p)), length-keys)

    before : (i : ℕ) → i < r → passed u (order (pre ++ S i) k) ≡ true
    before i h = rw (key-at i (omega (arith, r-le)) []) at (up_to_before (λ y. passed u (order y k)) (keys (listing w p)) [] i h)

    after : (i : ℕ) → r ≤ i → i < n → passed u (order (pre ++ S i) k) ≡ false
    after i h l =
        rw (key-at i l []) at (up_to_after (λ y. passed u (order y k)) (passed_falls u k) (keys (listing w p)) rises [] i h (rw length-keys l))

    module _ (hk : IsBytes k) where
      found : (lo hi : ℕ) → lo ≤ r → r ≤ hi → hi ≤ n → search u w p k lo hi ≡ Ok r
      found lo hi x y z =
          halving_to (turn u) Ok (slot_order w p k) n r
          (λ i h c d. unfold turn in rw (slot-order k hk i (omega (arith, r-le)), before i h))
          (λ i h l c d. unfold turn in rw (slot-order k hk i l, after i h l))
          n lo hi x y z (omega arith)

      -- ---- the window of hints in use, for a probe with the page's prefix
      module _ (within-prefix : class_of (frame_of p) k ≡ Equal) (used : in_use (frame_of p).flag n ≡ true) where
        abbrev s : List ℕ
        s = probe_suffix (frame_of p) k

        suffix-order : (i : ℕ) → order (pre ++ S i) k ≡ order (S i) s
        suffix-order i =
            let len = prefix-length w p size F in
            let c : order (take (length pre) k) pre ≡ Equal = rw len (unfold class_of in within-prefix) in
            sym (by_class_lem pre (S i) k) ∙ rw (c, len) (unfold by_class in refl)

        many : 64 ≤ n
        many = leb-true 64 n (both_parts (eqb (frame_of p).flag 1) (leb 64 n) (unfold in_use in used)).1

        length-hints : length (hints_of p) ≡ 8
        length-hints = rw (hints-fresh w p F used) (unfold fresh in length-tab 8 (λ i. head_at (view_of w p).rows ((i + 1) * window n)))

        hint-at : (j : ℕ) → j < 8 → get_or (hints_of p) j 0 ≡ head_of (S ((j + 1) * window n))
        hint-at j h =
            ap (λ (x : List ℕ). get_or x j 0) (hints-fresh w p F used)
            ∙ fresh_at n (head_at (view_of w p).rows) j h
            ∙ row-head ((j + 1) * window n) (hint_slot n j many h)
            ∙ faithful-at ((j + 1) * window n) (hint_slot n j many h)

        low-le : window_low (hints_of p) (head_of s) n ≤ r
        low-le = unfold window_low in go (first_hint (leb (head_of s)) (hints_of p)) refl
          where
            go : (m : ℕ) → first_hint (leb (head_of s)) (hints_of p) ≡ m → m * window n ≤ r
            go zero e = omega arith
            go (suc m) e =
                let k8 : suc m ≤ 8 = omega (arith, first_hint-le (leb (head_of s)) (hints_of p), length-hints) in
                let g : (m + 1) * window n ≡ suc m * window n = rw add-one in
                let low : get_or (hints_of p) m 0 < head_of s = leb-false (head_of s) (get_or (hints_of p) m 0) (first_hint-before (leb (head_of s)) (hints_of p) m (omega arith)) in
                let c : order (S ((m + 1) * window n)) s ≡ Less =
                head_below (S ((m + 1) * window n)) s (bytes-at ((m + 1) * window n)) (drop-bytes (frame_of p).prefix_len k hk) (omega (arith, hint-at m (omega arith))) in
                parted (dec_lt ((m + 1) * window n) r) (suffix-order ((m + 1) * window n) ∙ c) g (hint_slot n m many (omega arith))
              where
                parted : Dec ((m + 1) * window n < r) → order (pre ++ S ((m + 1) * window n)) k ≡ Less → (m + 1) * window n ≡ suc m * window n
                    → (m + 1) * window n < n → suc m * window n ≤ r
                parted (yes a) c g d = omega arith
                parted (no a) c g d =
                    absurd (both_ways (passed u (order (pre ++ S ((m + 1) * window n)) k)) (after ((m + 1) * window n) (omega arith) d) (passed_below u (order (pre ++ S ((m + 1) * window n)) k) c))

        up_le : first_hint (ltb (head_of s)) (hints_of p) ≤ 8
        up_le = omega (arith, first_hint-le (ltb (head_of s)) (hints_of p), length-hints)

        high-ge : (r ≤ window_high (hints_of p) (head_of s) n) × (window_high (hints_of p) (head_of s) n ≤ n)
        high-ge = unfold window_high in go (dec_lt (first_hint (ltb (head_of s)) (hints_of p)) 8)
          where
            up : ℕ
            up = first_hint (ltb (head_of s)) (hints_of p)

            at : ℕ
            at = (first_hint (ltb (head_of s)) (hints_of p) + 1) * window n

            here : first_hint (ltb (head_of s)) (hints_of p) < 8 → Dec ((first_hint (ltb (head_of s)) (hints_of p) + 1) * window n < r) → r ≤ (first_hint (ltb (head_of s)) (hints_of p) + 1) * window n
            here h (no a) = omega arith
            here h (yes a) =
                let g : head_of s < get_or (hints_of p) up 0 = ltb-true (head_of s) (get_or (hints_of p) up 0) (first_hint-here (ltb (head_of s)) (hints_of p) (rw length-hints h)) in
                let c : order s (S at) ≡ Less = head_below s (S at) (drop-bytes (frame_of p).prefix_len k hk) (bytes-at at) (omega (arith, hint-at up h)) in
                absurd (both_ways (passed u (order (pre ++ S at) k)) (passed-above u (order (pre ++ S at) k) (suffix-order at ∙ order_below s (S at) c)) (before at a))

            go : Dec (first_hint (ltb (head_of s)) (hints_of p) < 8)
                → (r ≤ pick (eqb (first_hint (ltb (head_of s)) (hints_of p)) 8) n ((first_hint (ltb (head_of s)) (hints_of p) + 1) * window n))
                × (pick (eqb (first_hint (ltb (head_of s)) (hints_of p)) 8) n ((first_hint (ltb (head_of s)) (hints_of p) + 1) * window n) ≤ n)
            go (yes h) = rw (ne_eqb up 8 (λ e. omega arith)) (here h (dec_lt at r), omega (arith, hint_slot n up many h))
            go (no h) = rw (eq-eqb up 8 (omega (arith, up_le))) (r-le, omega arith)

      bound-in : class_of (frame_of p) k ≡ Equal → bound_in u w p k ≡ Ok r
      bound-in c = unfold bound_in in go (in_use (frame_of p).flag n) refl
        where
          head : ℕ
          head = head_of (probe_suffix (frame_of p) k)

          go : (t : Bool) → in_use (frame_of p).flag n ≡ t
              → pick t (search u w p k (window_low (hints_of p) (head_of (probe_suffix (frame_of p) k)) n) (window_high (hints_of p) (head_of (probe_suffix (frame_of p) k)) n)) (search u w p k 0 n)
              ≡ Ok r
          go true e = found (window_low (hints_of p) head n) (window_high (hints_of p) head n) (low-le c e) (high-ge c e).0 (high-ge c e).1
          go false e = found 0 n (omega arith) r-le (omega arith)

      -- ---- every bound is what a scan finds
      key-class : (i : ℕ) → by_class (class_of (frame_of p) k) (order (S i) (drop (length pre) k)) ≡ order (pre ++ S i) k
      unfolding class_of
      key-class i = let len = prefix-length w p size F in rw (← len) (by_class_lem pre (S i) k)

      pub bound-scan : bound u w p k ≡ Ok r
      bound-scan = unfold bound in go (class_of (frame_of p) k) refl
        where
          go : (c : Ordering) → class_of (frame_of p) k ≡ c → bound_by c n (bound_in u w p k) ≡ Ok r
          go Equal e = unfold bound_by in bound-in e
          go Less e = unfold bound_by in ap Ok (none r refl)
            where
              none : (m : ℕ) → r ≡ m → 0 ≡ m
              none zero q = refl
              none (suc m) q =
                  absurd (both_ways (passed u (order (pre ++ S 0) k)) (passed-above u (order (pre ++ S 0) k) (sym (key-class 0) ∙ rw e (unfold by_class in refl))) (before 0 (omega arith)))
          go Greater e = unfold bound_by in ap Ok (full (dec_lt r n))
            where
              full : Dec (r < n) → n ≡ r
              full (no h) = omega (arith, r-le)
              full (yes h) =
                  absurd (both_ways (passed u (order (pre ++ S r) k)) (after r (omega arith) h) (passed_below u (order (pre ++ S r) k) (sym (key-class r) ∙ rw e (unfold by_class in refl))))

  -- ---- find
  differ-passed : (k : List ℕ) (i : ℕ) → passed false (order (pre ++ S i) k) ≡ true → differ k (pre ++ S i) ≡ true
  differ-passed k i h = go (order (pre ++ S i) k) refl h
    where
      go : (o : Ordering) → order (pre ++ S i) k ≡ o → passed false o ≡ true → differ k (pre ++ S i) ≡ true
      go Less e h = differ_sym k (pre ++ S i) ∙ (unfold differ in rw (order-less (pre ++ S i) k e))
      go Equal e h = absurd (both_ways false refl (unfold passed in h))
      go Greater e h = absurd (both_ways false refl (unfold passed in h))

  differ-not : (k : List ℕ) (i : ℕ) → passed true (order (pre ++ S i) k) ≡ false → differ k (pre ++ S i) ≡ true
  differ-not k i h = go (differ k (pre ++ S i)) refl
    where
      go : (t : Bool) → differ k (pre ++ S i) ≡ t → t ≡ true
      go true e = refl
      go false e =
          let q : order (pre ++ S i) k ≡ Equal = same_order (pre ++ S i) k (differ_no k (pre ++ S i) e) in
          absurd (both_ways (passed true (order (pre ++ S i) k)) h (rw q (unfold passed in refl)))

  all-differ : (k : List ℕ) → ((i : ℕ) → i < n → differ k (pre ++ S i) ≡ true) → all (differ k) (keys (listing w p)) ≡ true
  all-differ k h = all_of (differ k) (keys (listing w p)) [] (λ i m. rw (key-at i (rw length-keys at m) []) (h i (rw length-keys at m)))

  pub find-scan : (k : List ℕ) → IsBytes k → find_at w p k (bound false w p k) ≡ find_scan k (listing w p)
  find-scan k hk = rw (bound-scan false k hk) (unfold find_at find_scan in go (dec_lt r0 n))
    where
      r0 : ℕ
      r0 = scan false k (listing w p)

      at : scan false k (listing w p) < n → (o : Ordering) → order (pre ++ S (scan false k (listing w p))) k ≡ o
          → tested (scan false k (listing w p)) (Ok o) ≡ pick (all (differ k) (keys (listing w p))) (Ok (Smaller (scan false k (listing w p)))) (Ok (Found-as-Equal (scan false k (listing w p))))
      at h Less e = absurd (both_ways (passed false (order (pre ++ S r0) k)) (after false k r0 (omega arith) h) (passed_below false (order (pre ++ S r0) k) e))
      at h Equal e = unfold tested in equal (all (differ k) (keys (listing w p))) refl
        where
          equal : (t : Bool) → all (differ k) (keys (listing w p)) ≡ t → ◌≡◌ {A = Result Found Refusal} (Ok (Found-as-Equal r0)) (pick t (Ok (Smaller r0)) (Ok (Found-as-Equal r0)))
          equal false q = refl
          equal true q =
              absurd (both_ways (differ k (pre ++ S r0)) (differ_same k (pre ++ S r0) (order_same (pre ++ S r0) k e)) (rw (key-at r0 h []) at (all-at (differ k) (keys (listing w p)) q r0 [] (rw length-keys h))))
      at h Greater e = unfold tested in rw (all-differ k here)
        where
          top : ℕ
          top = scan true k (listing w p)

          low : Dec (r0 < top) → top ≤ r0
          low (no a) = omega arith
          low (yes a) = absurd (both_ways (passed true (order (pre ++ S r0) k)) (passed-above true (order (pre ++ S r0) k) e) (before true k r0 a))

          here : (i : ℕ) → i < n → differ k (pre ++ S i) ≡ true
          here i m =
              elim (dec_lt i r0) [
                | yes a ↦ differ-passed k i (before false k i a)
                | no a ↦ differ-not k i (after true k i (omega (arith, low (dec_lt r0 top))) m)
              ]

      go : Dec (scan false k (listing w p) < n)
          → pick (ltb (scan false k (listing w p)) n) (tested (scan false k (listing w p)) (slot_order w p k (scan false k (listing w p)))) (Ok (Smaller (scan false k (listing w p))))
          ≡ pick (all (differ k) (keys (listing w p))) (Ok (Smaller (scan false k (listing w p)))) (Ok (Found-as-Equal (scan false k (listing w p))))
      go (yes h) = rw (lt-ltb r0 n h, slot-order k hk r0 h) (at h (order (pre ++ S r0) k) refl)
      go (no h) = rw (le-ltb r0 n (omega arith), all-differ k (λ i m. differ-passed k i (before false k i (omega arith))))
