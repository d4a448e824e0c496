-- A source key cut anew: an entry as its slot's prefix, suffix and value were read, and its key without its first bytes. Assumes nothing.
use Rattle.std.proofs.Common.{◌≡◌, refl, sym, ap, ◌∙◌, List, [], ◌∷◌, ◌++◌, ℕ, zero, suc, ◌+◌, ◌-◌, ◌≤◌, ◌<◌, min, arith, length, take, drop, length-append, length-drop, drop-drop}
use native.Mathlib.Nat.{sub-zero}
use Rattle.octets.specs.Bytes.{le, big_bytes}
use Rattle.paper.specs.Page.{slot_at, place, slot_of, row_of, frame_of, prefix_of, suffix_of, value_at, body_bytes, numbers_of}
use Rattle.paper.specs.declared.page.Header.{Header}
use Rattle.paper.specs.declared.page.Slot.{Slot}
use Rattle.paper.proofs.Same.{le-body_bytes}
use Rattle.node.proofs.Spelling.{suffix-short, suffix-long}
use Rattle.write.specs.Room.{Room, Source, entry_at, cut_key}
use Rattle.write.proofs.Rekeys.{value_is}

-- ---- lists
take_none : (n : ℕ) → [] ≡ take {A = ℕ} n []
take_none zero = refl
take_none (suc n) = refl

drop-take : (k n : ℕ) (l : List ℕ) → drop k (take n l) ≡ take (n - k) (drop k l)
drop-take zero n l = rw sub-zero
drop-take (suc k) zero l = let e : 0 - suc k ≡ 0 = omega arith in rw e
drop-take (suc k) (suc n) [] = take_none (suc n - suc k)
drop-take (suc k) (suc n) (x ∷ l) = let e : suc n - suc k ≡ n - k = omega arith in rw e (drop-take k n l)

-- ---- the suffix of a slot without its first bytes, as code cuts it
module _ (q : List ℕ) (s : Slot) (skip : ℕ) where
  pub rest-short : (four : List ℕ) → s.len ≤ 4 → four ≡ big_bytes 4 s.head → take (s.len - skip) (drop skip four) ≡ drop skip (suffix_of q s)
  rest-short four h e = rw (e, suffix-short q s h) (sym (drop-take skip s.len (big_bytes 4 s.head)))

  pub rest-long : 4 < s.len → take (96 + s.offset + s.len - (96 + s.offset + skip)) (drop (96 + s.offset + skip) q) ≡ drop skip (suffix_of q s)
  rest-long h =
      let n : 96 + s.offset + s.len - (96 + s.offset + skip) ≡ 96 + s.offset + s.len - (96 + s.offset) - skip = omega arith in
      rw (n, ← suffix-long q s h, drop-take skip (96 + s.offset + s.len - (96 + s.offset)) (drop (96 + s.offset) q), drop-drop skip (96 + s.offset) q)

-- ---- entry j of q, whose slot was read as o
module _ (w : ℕ) (q : List ℕ) (l j : ℕ) (Q : Source w q l) (o : Slot) (E : o ≡ slot_at q (place j)) where
  pub entry-within : j < (numbers_of q).count → 96 + o.offset + body_bytes 4 o.len + w ≤ length q
  unfolding slot_of
  entry-within there = rw E (omega (arith, Q.size, Q.rows j there))

  pub entry-value : (at v : ℕ) → at ≡ value_at o → v ≡ le (min w 8) q at → v ≡ (entry_at w q j).value
  unfolding slot_of row_of
  entry-value at v a e = value_is w q o at v Q.width a e ∙ rw E

  -- its prefix was read as P, its suffix as S, and h is the header of the page where it is filed
  module _ (h : Header) (P S : List ℕ) (F : P ≡ prefix_of q l) (G : S ≡ suffix_of q o) where
    key-is : P ++ S ≡ (entry_at w q j).key
    unfolding slot_of row_of frame_of
    key-is = rw (F, G, E, Q.prefix)

    pub cut-is : (k : List ℕ) → k ≡ drop h.prefix_len (P ++ S) → k ≡ cut_key h (entry_at w q j)
    cut-is k e = e ∙ ap (drop h.prefix_len) key-is

    -- where a page has room for what is cut, a slot can hold its length
    pub cut-room : (p : List ℕ) → Room w p h h.count (length (cut_key h (entry_at w q j))) → length P + length S ≤ 65535 + h.prefix_len
    cut-room p R =
        let n : length (cut_key h (entry_at w q j)) ≡ length P + length S - h.prefix_len = rw (← key-is, length-drop, length-append) in
        omega (arith, n, R.room, R.top, le-body_bytes 4 (length (cut_key h (entry_at w q j))))
