-- The records of a buffer one after the other: a turn, the end, and a buffer that ends inside a record. Assumes nothing.
use Rattle.std.proofs.Common.{◌≡◌, refl, sym, ap, ◌∙◌, Bool, true, false, List, [], ◌∷◌, ℕ, zero, suc, ◌+◌, ◌-◌, ◌≤◌, ◌<◌, arith, lt-ltb, le-ltb, eqb-true, eq-eqb, ne_eqb, ltb, eqb, length, take, drop, length-drop, take_all, drop-drop}
use native.Mathlib.Decide.{dec_le}
use borrow.Author.Tests.{eqb-false}
use Rattle.std.proofs.lemmas.List.{get_or-drop}
use Rattle.octets.specs.Bytes.{le, part}
use Rattle.octets.proofs.Part.{length-part-le}
use Rattle.keys.specs.Choice.{pick}
use Rattle.paper.specs.Listing.{Entry}
use Rattle.filing.specs.Batches.{record_at, record_end, records_from, end_from, records_of, holds_records, first_length}

module _ (b : List ℕ) where
  -- past the end
  pub end_none : (n o : ℕ) → length b ≤ o → end_from n b o ≡ o
  unfolding end_from
  end_none zero o h = refl
  end_none (suc n) o h = rw (le-ltb o (length b) h)

  pub records-none : (n o : ℕ) → length b ≤ o → records_from n b o ≡ []
  unfolding records_from
  records-none zero o h = refl
  records-none (suc n) o h = rw (le-ltb o (length b) h)

  -- any number of turns that reaches the end will do
  end-turns : (m n o : ℕ) → length b ≤ o + m → length b ≤ o + n → end_from m b o ≡ end_from n b o
  unfolding end_from
  end-turns zero n o h k = sym (end_none n o (omega arith))
  end-turns (suc m) zero o h k = end_none (suc m) o (omega arith)
  end-turns (suc m) (suc n) o h k = ap (λ (x : ℕ). pick (ltb o (length b)) x o) (end-turns m n (record_end b o) (omega arith) (omega arith))

  records-turns : (m n o : ℕ) → length b ≤ o + m → length b ≤ o + n → records_from m b o ≡ records_from n b o
  unfolding records_from
  records-turns zero n o h k = sym (records-none n o (omega arith))
  records-turns (suc m) zero o h k = records-none (suc m) o (omega arith)
  records-turns (suc m) (suc n) o h k =
      ap (λ (x : List Entry). pick (ltb o (length b)) (record_at b o ∷ x) []) (records-turns m n (record_end b o) (omega arith) (omega arith))

  end-least : (n o : ℕ) → o ≤ end_from n b o
  unfolding end_from
  end-least zero o = omega arith
  end-least (suc n) o = go (ltb o (length b)) (end-least n (record_end b o))
    where
      go : (t : Bool) → record_end b o ≤ end_from n b (record_end b o) → o ≤ pick t (end_from n b (record_end b o)) o
      go true h = omega arith
      go false h = omega arith

  -- ---- a turn at place o; n is the length that was read
  module _ (o : ℕ) (h : o < length b) (n : ℕ) (e : n ≡ le 4 b o) where
    one_more : (length b - o) ≡ suc (length b - o - 1)
    one_more = omega arith

    pub end-turn : end_from (length b - o) b o ≡ end_from (length b - (o + 12 + n)) b (o + 12 + n)
    unfolding end_from
    end-turn = rw (one_more, lt-ltb o (length b) h, e) (end-turns (length b - o - 1) (length b - record_end b o) (record_end b o) (omega arith) (omega arith))

    pub records-turn : records_from (length b - o) b o ≡ record_at b o ∷ records_from (length b - (o + 12 + n)) b (o + 12 + n)
    unfolding records_from
    records-turn =
        rw (one_more, lt-ltb o (length b) h, e)
        (ap (λ (x : List Entry). record_at b o ∷ x) (records-turns (length b - o - 1) (length b - record_end b o) (record_end b o) (omega arith) (omega arith)))

    -- the record ends within a buffer of whole ones
    pub record-within : end_from (length b - o) b o ≡ length b → o + 12 + n ≤ length b
    record-within k = omega (arith, k, end-turn, end-least (length b - (o + 12 + n)) (o + 12 + n))

  -- ---- the whole buffer; o is where a walk from its beginning came
  pub start-end : end_from (length b) b 0 ≡ end_from (length b - 0) b 0
  start-end = end-turns (length b) (length b - 0) 0 (omega arith) (omega arith)

  pub start-records : records_of b ≡ records_from (length b - 0) b 0
  unfolding records_of
  start-records = records-turns (length b) (length b - 0) 0 (omega arith) (omega arith)

  module _ (o : ℕ) (came : end_from (length b) b 0 ≡ end_from (length b - o) b o) where
    pub holds_not : o < length b → length b < record_end b o → holds_records b ≡ false
    unfolding holds_records
    holds_not h k =
        ne_eqb (end_from (length b) b 0) (length b)
        (λ e. omega (arith, e, came, end-turn o h (le 4 b o) refl, end-least (length b - record_end b o) (record_end b o)))

    pub holds-all : o ≤ length b → length b ≤ o → holds_records b ≡ true
    unfolding holds_records
    holds-all h k = eq-eqb (end_from (length b) b 0) (length b) (omega (arith, came, end_none (length b - o) o k))

  pub held : holds_records b ≡ true → end_from (length b - 0) b 0 ≡ length b
  unfolding holds_records
  held e = sym start-end ∙ eqb-true (end_from (length b) b 0) (length b) e

  -- ---- the first one
  pub first-none : length b ≡ 0 → first_length (records_of b) ≡ 0
  unfolding records_of first_length
  first-none e = rw (records-none (length b) 0 (omega arith))

  pub first-held : holds_records b ≡ true → (length b ≡ 0 → ⊥) → 12 + le 4 b 0 ≤ length b
  first-held e k = omega (arith, record-within 0 (omega arith) (le 4 b 0) refl (held e))

  pub first-is : holds_records b ≡ true → (length b ≡ 0 → ⊥) → (n : ℕ) → n ≡ le 4 b 0 → first_length (records_of b) ≡ n
  unfolding first_length
  first-is e k n m =
      rw (start-records, records-turn 0 (omega arith) (le 4 b 0) refl, m) (length-part-le (le 4 b 0) b 4 (omega (arith, first-held e k)))

-- ---- what is left of a buffer behind its first d bytes
le-drop : (n d : ℕ) (b : List ℕ) (o : ℕ) → le n (drop d b) o ≡ le n b (d + o)
unfolding le
le-drop zero d b o = refl
le-drop (suc n) d b o = let e : d + suc o ≡ suc (d + o) = omega arith in rw (get_or-drop d b o 0, le-drop n d b (suc o), e)

part-drop : (n d : ℕ) (b : List ℕ) (o : ℕ) → part n (drop d b) o ≡ part n b (d + o)
unfolding part
part-drop n d b o = ap (take n) (drop-drop o d b)

module _ (d : ℕ) (b : List ℕ) where
  record-drop : (o : ℕ) → record_at (drop d b) o ≡ record_at b (d + o)
  record-drop o =
      let e : d + (o + 4) ≡ d + o + 4 = omega arith in
      let n = le-drop 4 d b o in
      let f : d + (o + 4 + le 4 b (d + o)) ≡ d + o + 4 + le 4 b (d + o) = omega arith in
      rw (n, part-drop (le 4 b (d + o)) d b (o + 4), le-drop 8 d b (o + 4 + le 4 b (d + o)), e, f)

  end-place : (o : ℕ) → d + record_end (drop d b) o ≡ record_end b (d + o)
  end-place o = let n = le-drop 4 d b o in omega (arith, n)

  within-drop : (o : ℕ) → d ≤ length b → ltb o (length (drop d b)) ≡ ltb (d + o) (length b)
  within-drop o h = rw length-drop (go (dec_le (length b) (d + o)))
    where
      go : Dec (length b ≤ d + o) → ltb o (length b - d) ≡ ltb (d + o) (length b)
      go (yes l) = le-ltb o (length b - d) (omega arith) ∙ sym (le-ltb (d + o) (length b) l)
      go (no l) = lt-ltb o (length b - d) (omega arith) ∙ sym (lt-ltb (d + o) (length b) (omega arith))

  records-drop : d ≤ length b → (n o : ℕ) → records_from n (drop d b) o ≡ records_from n b (d + o)
  unfolding records_from
  records-drop h zero o = refl
  records-drop h (suc n) o = rw (within-drop o h, record-drop o, records-drop h n (record_end (drop d b) o), end-place o)

  end-drop : d ≤ length b → (n o : ℕ) → d + end_from n (drop d b) o ≡ end_from n b (d + o)
  unfolding end_from
  end-drop h zero o = refl
  end-drop h (suc n) o = rw (within-drop o h, ← end-place o, ← end-drop h n (record_end (drop d b) o)) (go (ltb (d + o) (length b)))
    where
      go : (t : Bool) → d + pick t (end_from n (drop d b) (record_end (drop d b) o)) o ≡ pick t (d + end_from n (drop d b) (record_end (drop d b) o)) (d + o)
      go true = refl
      go false = refl

-- ---- whether there is none left, as it was asked
pub none-told : (n : ℕ) (t : Bool) → t ≡ eqb n 0 → t ≡ true → n ≡ 0
none-told n t e f = eqb-true n 0 (sym e ∙ f)

pub some-told : (n : ℕ) (t : Bool) → t ≡ eqb n 0 → t ≡ false → n ≡ 0 → ⊥
some-told n t e f = eqb-false n 0 (sym e ∙ f)

-- a buffer has no more records than bytes
module _ (b : List ℕ) where
  records-few : (n o : ℕ) → length (records_from n b o) ≤ n
  unfolding records_from
  records-few zero o = omega arith
  records-few (suc n) o = go (ltb o (length b)) (records-few n (record_end b o))
    where
      go : (t : Bool) → length (records_from n b (record_end b o)) ≤ n → length (pick t (record_at b o ∷ records_from n b (record_end b o)) []) ≤ suc n
      go true h = omega arith
      go false h = omega arith

  pub few : length (records_of b) ≤ length b
  unfolding records_of
  few = records-few (length b) 0

-- ---- the first record of a buffer b of whole ones, as it was read: n its key's length, x the key, v the value and r what is left
module _ (b : List ℕ) (whole : holds_records b ≡ true) where
  pub none-left : length b ≡ 0 → records_of b ≡ []
  unfolding records_of
  none-left e = records-none b (length b) 0 (omega arith)

  module _ (some : length b ≡ 0 → ⊥) (n : ℕ) (e : n ≡ le 4 b 0) where
    pub one-within : 12 + n ≤ length b
    one-within = omega (arith, first-held b whole some, e)

    module _ (r : List ℕ) (f : r ≡ take (length b - (4 + n + 8)) (drop (4 + n + 8) b)) where
      left-is : r ≡ drop (12 + n) b
      left-is = let m : 4 + n + 8 ≡ 12 + n = omega arith in f ∙ rw m (take_all (length b - (12 + n)) (drop (12 + n) b) (rw length-drop (omega arith)))

      left-length : length (drop (12 + n) b) ≡ length b - (0 + 12 + n)
      left-length = length-drop (12 + n) b ∙ (let z : length b - (12 + n) ≡ length b - (0 + 12 + n) = omega arith in z)

      at-end : 12 + n + 0 ≡ 0 + 12 + n
      at-end = omega arith

      pub left-whole : holds_records r ≡ true
      unfolding holds_records
      left-whole =
          rw left-is
          (eq-eqb _ _
          (let whole-end = sym (end-turn b 0 (omega arith) n e) ∙ held b whole in
          let moved = end-drop (12 + n) b one-within (length (drop (12 + n) b)) 0 in
          let place : end_from (length (drop (12 + n) b)) b (12 + n + 0) ≡ length b = rw (left-length, at-end) whole-end in
          omega (arith, moved, place, length-drop (12 + n) b, one-within)))

      pub first-left : (v : ℕ) → v ≡ le 8 b (4 + n) → (x : List ℕ) → x ≡ take (4 + n - 4) (drop 4 b) → records_of b ≡ record { key = x; value = v } ∷ records_of r
      unfolding records_of part
      first-left v d x k =
          let m : 4 + n - 4 ≡ n = omega arith in
          start-records b
          ∙ records-turn b 0 (omega arith) n e
          ∙ (let rest = records-drop (12 + n) b one-within (length (drop (12 + n) b)) 0 in
          let same : records_from (length (drop (12 + n) b)) (drop (12 + n) b) 0 ≡ records_from (length b - (0 + 12 + n)) b (0 + 12 + n) = rest ∙ rw (left-length, at-end) in
          rw (left-is, ← same, d, k, m, e))

pub ruleset by_place = (start-end, end-turn, holds_not, holds-all)

pub ruleset by_first = (none-told, some-told, first-none, first-held, first-is)

pub ruleset by_next = (none-told, some-told, none-left, one-within, left-whole, first-left)
