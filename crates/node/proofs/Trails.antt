-- The last eight bytes of a key, read where they stand or put together from prefix and suffix, and the trailing id's ways out. Assumes
-- nothing.
use Rattle.std.proofs.Common.{◌≡◌, sym, ◌∙◌, Bool, true, false, List, [], ◌∷◌, ◌++◌, ℕ, ◌+◌, ◌-◌, ◌≤◌, ◌<◌, zero-add, arith, le-leb, leb, length, take, drop, length-append, length-drop, take_all, get_or-drop, get_or-append-add, Ok, Err}
use borrow.Author.Tests.{lt-leb}
use lib.Seq.{drop-append-le}
use Rattle.octets.specs.Bytes.{le, be, put}
use Rattle.octets.proofs.Alike.{be-alike, be-put-inside, be-part}
use Rattle.keys.specs.Choice.{pick}
use Rattle.paper.specs.Page.{slot_of, prefix_of, suffix_of, body_bytes}
use Rattle.paper.specs.Refusals.{check, judge}
use Rattle.paper.specs.Calls.{key_at, trailing_of}
use Rattle.paper.specs.declared.page.Slot.{Slot}
use Rattle.paper.specs.declared.refusal.Refusal.{Refusal}
use Rattle.paper.specs.declared.refusal.Refusal.TheVariants.{ShortKey}
use Rattle.node.specs.Admit.{admit_of, opened_of}
use Rattle.node.proofs.Entries.{opened-judge, shut-judge, open-refused}
use Rattle.node.proofs.Spelling.{length-prefix_of, length-suffix_of, suffix-room, put_both}
use Rattle.node.proofs.Copies.{size-least, prefix-most, suffix_within, key-is, key-length}

-- ---- a number read from two lists, one after the other
-- from a place of the first on, the bytes before that place do not matter
be_later : (n d : ℕ) (a b : List ℕ) → d ≤ length a → be n (drop d a ++ b) 0 ≡ be n (a ++ b) d
be_later n d a b h = be-alike n (drop d a ++ b) 0 (a ++ b) d (λ i l. rw (zero-add i, ← drop-append-le d a b h) (get_or-drop d (a ++ b) i 0))

-- from a place of the second on, the first does not matter
be_beyond : (n : ℕ) (a b : List ℕ) (j : ℕ) → be n (a ++ b) (length a + j) ≡ be n b j
be_beyond n a b j = be-alike n (a ++ b) (length a + j) b j (λ i l. let e : length a + j + i ≡ length a + (j + i) = omega arith in rw e (get_or-append-add a b (j + i) 0))

-- ---- the end of a list, as code lends it
abbrev pub rest : ℕ → List ℕ → List ℕ
rest d f = take (length f - d) (drop d f)

rest-drop : (d : ℕ) (f : List ℕ) → rest d f ≡ drop d f
rest-drop d f = take_all (length f - d) (drop d f) (simp length-drop (omega arith))

-- ---- the end of the prefix, then a short suffix
module _ (p f : List ℕ) (n : ℕ) (size : 16384 ≤ length p) (most : n ≤ 16256) (e : f ≡ prefix_of p n) where
  front_length : length f ≡ n
  front_length = rw e (length-prefix_of p n size most)

  pub rest-within : (k : ℕ) → n - k ≤ length f
  rest-within k = omega (arith, front_length)

  pub rest-fits : (k : ℕ) → 8 ≤ n + k → 0 + length (rest (n - (8 - k)) f) ≤ 8
  rest-fits k h = rw (rest-drop (n - (8 - k)) f, length-drop) (omega (arith, front_length))

  pub across-is : (z : List ℕ) (s : Slot) → length z ≡ 8 → s.len ≤ 8 → 8 ≤ n + s.len → 96 + s.offset + body_bytes 4 s.len ≤ length p → be 8 (put (put z 0 (rest (n - (8 - s.len)) f)) (8 - s.len) (suffix_of p s)) 0 ≡ be 8 (prefix_of p n ++ suffix_of p s) (n + s.len - 8)
  across-is z s eight few enough within =
      let d = n - (8 - s.len) in
      let suf = suffix_of p s in
      let long : length (drop d f) ≡ 8 - s.len = rw length-drop (omega (arith, front_length)) in
      let all : length (drop d f ++ suf) ≡ 8 = rw (length-append, long, length-suffix_of p s within) (omega arith) in
      let at : d ≡ n + s.len - 8 = omega arith in
      rw (rest-drop d f, put_both z (drop d f) suf (8 - s.len) long)
      (be-put-inside 8 z 0 (drop d f ++ suf) 0 (omega arith) (omega arith) ∙ be_later 8 d f suf (omega (arith, front_length)) ∙ rw (at, e))

-- ---- the trailing id
module _ (w : ℕ) (p : List ℕ) (i : ℕ) (s : Slot) (e : opened_of w p i ≡ Ok s) where
  abbrev key : List ℕ
  key = key_at p (slot_of p i)

  trailing-by : (t : Bool) → leb 8 (length key) ≡ t → trailing_of w p i ≡ pick t (Ok (be 8 key (length key - 8))) (Err ShortKey)
  unfolding trailing_of judge
  trailing-by t l = opened-judge w p i s e (check (leb 8 (length key)) ShortKey ∷ []) (Ok (be 8 key (length key - 8))) Err ∙ rw l

  -- of a long suffix it stands on the page
  pub long-within : (u : ℕ) → u ≡ s.offset + s.len → 8 < s.len → 88 + u + 8 ≤ length p
  long-within u k long = omega (arith, suffix-room s.len (96 + s.offset) (length p) (omega arith) (suffix_within w p i s e))

  -- by the prefix length that was read
  module _ (m : ℕ) (f : m ≡ le 2 p 46) where
    long-is : (u : ℕ) → u ≡ s.offset + s.len → 8 < s.len → be 8 p (88 + u) ≡ be 8 (prefix_of p m ++ suffix_of p s) (m + s.len - 8)
    unfolding suffix_of
    long-is u k long =
        let pre = prefix_of p m in
        let there : length pre ≡ m = length-prefix_of p m (size-least w p i s e) (prefix-most w p i s e m f) in
        let at : m + s.len - 8 ≡ length pre + (s.len - 8) = omega arith in
        let from : 96 + s.offset + (s.len - 8) ≡ 88 + u = omega arith in
        sym (rw (at, be_beyond 8 pre (suffix_of p s) (s.len - 8), suffix_of, lt-leb s.len 4 (omega arith), be-part 8 s.len p (96 + s.offset) (s.len - 8) (omega arith), from))

    module _ (n : ℕ) (k : n ≡ m + s.len) where
      pub trailing-short : n < 8 → trailing_of w p i ≡ Err ShortKey
      trailing-short l = trailing-by false (rw (key-length w p i s e m f) (lt-leb 8 (m + s.len) (omega arith)))

      pub trailing-is : (v : ℕ) → 8 ≤ n → v ≡ be 8 (prefix_of p m ++ suffix_of p s) (m + s.len - 8) → trailing_of w p i ≡ Ok v
      trailing-is v l g =
          trailing-by true (rw (key-length w p i s e m f) (le-leb 8 (m + s.len) (omega arith))) ∙ rw (key-length w p i s e m f, key-is w p i s e m f, g)

      -- v is what was read before the place u where a long suffix ends
      pub trailing-long : (u v : ℕ) → 8 ≤ n → u ≡ s.offset + s.len → 8 < s.len → v ≡ be 8 p (88 + u) → trailing_of w p i ≡ Ok v
      trailing-long u v l k long g = trailing-is v l (g ∙ long-is u k long)

module _ (w : ℕ) (p : List ℕ) (i : ℕ) (q : Refusal) where
  pub trailing_shut : opened_of w p i ≡ Err q → trailing_of w p i ≡ Err q
  unfolding trailing_of
  trailing_shut e = shut-judge w p i q e _ _ Err

  pub trailing-none : admit_of w p 0 ≡ Err q → trailing_of w p i ≡ Err q
  trailing-none e = trailing_shut (open-refused w p i q e)

pub ruleset acrosses = (rest-within, rest-fits, across-is)

pub ruleset trailing = (size-least, prefix-most, suffix_within, trailing-none, trailing_shut)
