-- Records that were written one after the other are read back: each field is a part of the buffer, behind what was written before it. Assumes nothing.
use Rattle.std.proofs.Common.{◌≡◌, refl, sym, ◌∙◌, true, List, [], ◌∷◌, ◌++◌, append_assoc, ℕ, zero, suc, ◌+◌, ◌^◌, ◌≤◌, ◌<◌, add-zero, arith, lt-ltb, ltb-true, eq-eqb, ltb, length, length-append}
use lib.Seq.{take-append_seam, drop-append_seam}
use Rattle.octets.specs.Bytes.{le, part, bytes}
use Rattle.octets.proofs.Alike.{le-part}
use Rattle.octets.proofs.Little.{length-bytes, le_bytes}
use Rattle.paper.specs.Lists.{all}
use Rattle.paper.specs.Listing.{Entry}
use Rattle.paper.proofs.Lists.{both_parts}
use Rattle.filing.specs.Batches.{record_at, record_end, records_from, end_from, records_of, holds_records}
use Rattle.filing.specs.Written.{record_bytes, buffer_of, writable, ReadBack}
use Rattle.filing.proofs.Placed.{end_none, records-none}

-- the run k behind a
run_at : (b a k c : List ℕ) → b ≡ a ++ (k ++ c) → (o n : ℕ) → o ≡ length a → n ≡ length k → part n b o ≡ k
unfolding part
run_at b a k c e o n d m = rw (e, d, m, drop-append_seam a (k ++ c)) (take-append_seam k c)

number_at : (b a : List ℕ) (n v : ℕ) (c : List ℕ) → b ≡ a ++ (bytes n v ++ c) → (o : ℕ) → o ≡ length a → v < 256 ^ n → le n b o ≡ v
number_at b a n v c e o d l =
    let same : part n b o ≡ bytes n v = run_at b a (bytes n v) c e o n d (sym (length-bytes n v)) in
    let here : le n (part n b o) 0 ≡ le n b (o + 0) = le-part n n b o 0 (omega arith) in
    sym (rw add-zero at here) ∙ rw same (le_bytes n v l)

-- ---- a record e behind a, before c
module _ (a : List ℕ) (e : Entry) (c : List ℕ) (w : writable e ≡ true) where
  abbrev buffer : List ℕ
  buffer = a ++ (record_bytes e ++ c)

  sizes : (length e.key < 256 ^ 4) × (e.value < 256 ^ 8)
  sizes =
      let b = both_parts (ltb (length e.key) (256 ^ 4)) (ltb e.value (256 ^ 8)) w in
      (ltb-true (length e.key) (256 ^ 4) b.0, ltb-true e.value (256 ^ 8) b.1)

  abbrev l : List ℕ
  l = bytes 4 (length e.key)

  abbrev v : List ℕ
  v = bytes 8 e.value

  by_length : buffer ≡ a ++ (l ++ ((e.key ++ v) ++ c))
  unfolding record_bytes
  by_length = rw (append_assoc l (e.key ++ v) c)

  by_key : buffer ≡ a ++ l ++ (e.key ++ (v ++ c))
  by_key = by_length ∙ rw (append_assoc e.key v c, append_assoc a l (e.key ++ (v ++ c)))

  by_value : buffer ≡ a ++ l ++ e.key ++ (v ++ c)
  by_value = by_key ∙ sym (append_assoc (a ++ l) e.key (v ++ c))

  four : length (a ++ l) ≡ length a + 4
  four = rw (length-append a l, length-bytes 4 (length e.key))

  length-read : le 4 buffer (length a) ≡ length e.key
  length-read = number_at buffer a 4 (length e.key) ((e.key ++ v) ++ c) by_length (length a) refl sizes.0

  key-read : part (le 4 buffer (length a)) buffer (length a + 4) ≡ e.key
  key-read = run_at buffer (a ++ l) e.key (v ++ c) by_key (length a + 4) (le 4 buffer (length a)) (sym four) length-read

  value_read : le 8 buffer (length a + 4 + le 4 buffer (length a)) ≡ e.value
  value_read =
      number_at buffer (a ++ l ++ e.key) 8 e.value c by_value (length a + 4 + le 4 buffer (length a)) (rw (length-append (a ++ l) e.key, four, length-read)) sizes.1

  record-read : record_at buffer (length a) ≡ e
  record-read = λ i. record { key = key-read i; value = value_read i }

  length-record : length (record_bytes e) ≡ 12 + length e.key
  unfolding record_bytes
  length-record =
      omega (
        arith,
        length-append l (e.key ++ v),
        length-append e.key v,
        length-bytes 4 (length e.key),
        length-bytes 8 e.value,
      )

  end_read : record_end buffer (length a) ≡ length (a ++ record_bytes e)
  end_read = omega (arith, length-read, length-append a (record_bytes e), length-record)

  within : length a < length buffer
  within = omega (arith, length-append a (record_bytes e ++ c), length-append (record_bytes e) c, length-record)

  moved : buffer ≡ a ++ record_bytes e ++ c
  moved = sym (append_assoc a (record_bytes e) c)

-- ---- all of them behind a
nothing_behind : (a : List ℕ) → length (a ++ []) ≡ length a
nothing_behind a = omega (arith, length-append a [])

records_read : (es : List Entry) (a : List ℕ) → all writable es ≡ true → (n : ℕ) → length (buffer_of es) ≤ n → records_from n (a ++ buffer_of es) (length a) ≡ es
unfolding buffer_of all records_from
records_read [] a w n h = records-none (a ++ []) n (length a) (omega (arith, nothing_behind a))
records_read (e ∷ es) a w zero h =
    absurd (omega (arith, h, length-append (record_bytes e) (buffer_of es), length-record a e (buffer_of es) (both_parts (writable e) (all writable es) w).0))
records_read (e ∷ es) a w (suc n) h =
    let u = both_parts (writable e) (all writable es) w in
    let r = buffer_of es in
    let rest = records_read es (a ++ record_bytes e) u.1 n (omega (arith, h, length-append (record_bytes e) r, length-record a e r u.0)) in
    rw (lt-ltb (length a) (length (a ++ (record_bytes e ++ r))) (within a e r u.0), record-read a e r u.0, end_read a e r u.0, moved a e r u.0, rest)

end_reached : (es : List Entry) (a : List ℕ) → all writable es ≡ true → (n : ℕ) → length (buffer_of es) ≤ n
    → end_from n (a ++ buffer_of es) (length a) ≡ length (a ++ buffer_of es)
unfolding buffer_of all end_from
end_reached [] a w n h = end_none (a ++ []) n (length a) (omega (arith, nothing_behind a)) ∙ sym (nothing_behind a)
end_reached (e ∷ es) a w zero h =
    absurd (omega (arith, h, length-append (record_bytes e) (buffer_of es), length-record a e (buffer_of es) (both_parts (writable e) (all writable es) w).0))
end_reached (e ∷ es) a w (suc n) h =
    let u = both_parts (writable e) (all writable es) w in
    let r = buffer_of es in
    let rest = end_reached es (a ++ record_bytes e) u.1 n (omega (arith, h, length-append (record_bytes e) r, length-record a e r u.0)) in
    rw (lt-ltb (length a) (length (a ++ (record_bytes e ++ r))) (within a e r u.0), end_read a e r u.0, moved a e r u.0) rest

pub read_back : ReadBack
unfolding holds_records records_of
read_back es w = (
  eq-eqb (end_from (length (buffer_of es)) (buffer_of es) 0) (length (buffer_of es)) (end_reached es [] w (length (buffer_of es)) (omega arith)),
  records_read es [] w (length (buffer_of es)) (omega arith),
)
