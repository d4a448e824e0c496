-- What a listing shows at a place, and where a key that is there stands: the scan for it passes exactly the smaller keys, and among rising
-- keys a larger one would differ from all the rest. Assumes nothing.
use Rattle.std.proofs.Common.{◌≡◌, refl, ap, ◌∙◌, true, false, List, [], ◌∷◌, ◌++◌, ℕ, suc, ◌<◌, arith, length, get_or}
use Rattle.std.proofs.lemmas.Bool.{both_ways}
use Rattle.std.proofs.lemmas.List.{get_or-map}
use Rattle.octets.specs.Bytes.{le}
use Rattle.keys.specs.Choice.{pick, both}
use Rattle.keys.specs.Keys.{order}
use Rattle.keys.proofs.Orders.{order_same, order-above}
use Rattle.paper.specs.Lists.{tab, all, up_to, less, differ, below_first, rising}
use Rattle.paper.specs.Page.{slot_of, suffix_of, value_at, Row, row_of, frame_of, numbers_of, view_of}
use Rattle.paper.specs.Listing.{Entry, entry_of, listing}
use Rattle.paper.specs.Searches.{passed}
use Rattle.paper.proofs.Lists.{both_parts, both_yes, length-tab, getD-tab}
use Rattle.paper.proofs.Sorted.{spot, order-less, less_trans, differ_sym}
use Rattle.std.specs.declared.cmp.Ordering.{Ordering}
use Rattle.std.specs.declared.cmp.Ordering.TheVariants.{Less, Equal, Greater}

-- the entry of slot i
pub listed : (w : ℕ) (p : List ℕ) (i : ℕ) (d : Entry) → i < (numbers_of p).count
    → get_or (listing w p) i d ≡ record { key = (frame_of p).prefix ++ suffix_of p (slot_of p i); value = le w p (value_at (slot_of p i)) }
unfolding listing view_of row_of
listed w p i d h =
    let n = (numbers_of p).count in
    let f : ℕ → Row = λ j. row_of w p (slot_of p j) in
    get_or-map (entry_of (frame_of p)) (tab n f) i (f i) d (rw (length-tab n f) h) ∙ ap (entry_of (frame_of p)) (getD-tab n f i (f i) h)

-- ---- a key that is there
less-differ : (a b : List ℕ) → less a b ≡ true → differ a b ≡ true
unfolding differ
less-differ a b e = rw e

-- a key below the first of rising keys differs from all of them
all_above : (k y : List ℕ) (l : List (List ℕ)) → less k y ≡ true → below_first y l ≡ true → rising l ≡ true → all (differ k) l ≡ true
unfolding all below_first rising
all_above k y [] e a r = refl
all_above k y (z ∷ l) e a r =
    let b = both_parts (below_first z l) (rising l) r in
    let m = less_trans k y z e a in
    both_yes (differ k z) (all (differ k) l) (less-differ k z m) (all_above k z l m b.0 b.1)

-- among rising keys it stands where the scan for it stops
pub present_at : (k : List ℕ) (ks : List (List ℕ)) → rising ks ≡ true → all (differ k) ks ≡ false → (spot k ks < length ks) × (get_or ks (spot k ks) [] ≡ k)
unfolding rising all up_to passed
present_at k [] r e = absurd (both_ways true e refl)
present_at k (y ∷ l) r e = go (order y k) refl (present_at k l (both_parts (below_first y l) (rising l) r).1)
  where
    go : (o : Ordering) → order y k ≡ o → (all (differ k) l ≡ false → (spot k l < length l) × (get_or l (spot k l) [] ≡ k))
        → (pick (passed false o) (suc (spot k l)) 0 < suc (length l)) × (get_or (y ∷ l) (pick (passed false o) (suc (spot k l)) 0) [] ≡ k)
    go Less q next =
        let d : differ k y ≡ true = differ_sym k y ∙ less-differ y k (order-less y k q) in
        let m = next (rw d at e) in
        (omega arith, m.1)
    go Equal q next = (omega arith, order_same y k q)
    go Greater q next =
        let m = order-less k y (order-above y k q) in
        let b = both_parts (below_first y l) (rising l) r in
        absurd (both_ways (both (differ k y) (all (differ k) l)) e (both_yes (differ k y) (all (differ k) l) (less-differ k y m) (all_above k y l m b.0 b.1)))
