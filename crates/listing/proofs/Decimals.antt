-- Decimal digits one at a time, from the last; hex digits a byte at a time, from the first. Assumes nothing.
use Rattle.std.proofs.Common.{◌≡◌, refl, sym, ap, ◌∙◌, Bool, true, false, List, [], ◌∷◌, ◌++◌, append_assoc, ℕ, zero, suc, ◌+◌, ◌*◌, ◌-◌, ◌/◌, ◌%◌, ◌^◌, ◌≤◌, ◌<◌, pow-suc, add-one, arith, lt-ltb, le-ltb, length, get_or, set, take, drop, length-append, length-set, drop_of_length-le, drop-cons, take_all, take-suc, take-suc-set}
use native.Mathlib.Decide.{dec_lt}
use Rattle.std.proofs.lemmas.List.{drop-set}
use mir.Val.{bool_byte}
use Rattle.keys.specs.Choice.{pick}
use Rattle.listing.proofs.Writing.{adds-then, hex-append, length-hex, key-none, left-all, left-done}
use Rattle.paper.specs.Printed.{decimal_in, decimal, number_words, hex_digit, hex_bytes}

-- ---- decimal
in_short : (k n : ℕ) → n < 10 → decimal_in k n ≡ (48 + n) ∷ []
unfolding decimal_in
in_short zero n h = refl
in_short (suc k) n h = rw (lt-ltb n 10 h)

in_turn : (k n : ℕ) → 10 ≤ n → decimal_in (suc k) n ≡ decimal_in k (n / 10) ++ ((48 + n % 10) ∷ [])
unfolding decimal_in
in_turn k n h = rw (le-ltb n 10 h)

-- a digit more in hand changes nothing
in_more : (k n : ℕ) → n < 10 ^ suc k → decimal_in (suc k) n ≡ decimal_in k n
in_more zero n h = in_short 1 n (omega arith) ∙ sym (in_short 0 n (omega arith))
in_more (suc k) n h =
    elim (dec_lt n 10) [
      | yes l ↦ in_short (suc (suc k)) n l ∙ sym (in_short (suc k) n l)
      | no l ↦ in_turn (suc k) n (omega arith) ∙ rw (in_more k (n / 10) (omega (arith, pow-suc 10 (suc k)))) (sym (in_turn k n (omega arith)))
    ]

in_length : (k n : ℕ) → length (decimal_in k n) ≤ suc k
in_length zero n = unfold decimal_in in omega arith
in_length (suc k) n =
    elim (dec_lt n 10) [
      | yes l ↦ rw (in_short (suc k) n l) (omega arith)
      | no l ↦ rw (in_turn k n (omega arith), length-append) (omega (arith, in_length k (n / 10)))
    ]

pub length-decimal : (n : ℕ) → length (decimal n) ≤ 20
unfolding decimal
length-decimal n = in_length 19 n

pub decimal-short : (n : ℕ) → n < 10 → decimal n ≡ (48 + n) ∷ []
unfolding decimal
decimal-short n h = in_short 19 n h

-- the last digit of a number of 64 bits
pub decimal-turn : (n : ℕ) → 10 ≤ n → n < 18446744073709551616 → decimal n ≡ decimal (n / 10) ++ ((48 + n % 10) ∷ [])
unfolding decimal
decimal-turn n h l = in_turn 18 n h ∙ rw (in_more 18 (n / 10) (omega arith))

pub length-turn : (n : ℕ) → 10 ≤ n → n < 18446744073709551616 → length (decimal n) ≡ length (decimal (n / 10)) + 1
length-turn n h l = rw (decimal-turn n h l, length-append)

pub length-short : (n : ℕ) → n < 10 → length (decimal n) ≡ 1
length-short n h = rw (decimal-short n h)

pub length-two : (n : ℕ) → 10 ≤ n → n ≤ 99 → length (decimal n) ≡ 2
length-two n h l = omega (arith, length-turn n h (omega arith), length-short (n / 10) (omega arith))

pub length-three : (n : ℕ) → 100 ≤ n → n ≤ 999 → length (decimal n) ≡ 3
length-three n h l = omega (arith, length-turn n (omega arith) (omega arith), length-two (n / 10) (omega arith) (omega arith))

pub length-four : (n : ℕ) → 1000 ≤ n → n ≤ 9999 → length (decimal n) ≡ 4
length-four n h l = omega (arith, length-turn n (omega arith) (omega arith), length-three (n / 10) (omega arith) (omega arith))

-- four digits less
pub length-more : (n : ℕ) → 10000 ≤ n → n < 18446744073709551616 → length (decimal n) ≡ length (decimal (n / 10000)) + 4
length-more n h l =
    let a = length-turn n (omega arith) l in
    let b = length-turn (n / 10) (omega arith) (omega arith) in
    let c = length-turn (n / 10 / 10) (omega arith) (omega arith) in
    let d = length-turn (n / 10 / 10 / 10) (omega arith) (omega arith) in
    let e : n / 10 / 10 / 10 / 10 ≡ n / 10000 = omega arith in
    rw (a, b, c, d, e) (omega arith)

pub length-some : (n : ℕ) → 0 < length (decimal n)
unfolding decimal
length-some n =
    elim (dec_lt n 10) [
      | yes l ↦ rw (in_short 19 n l) (omega arith)
      | no l ↦ rw (in_turn 18 n (omega arith), length-append) (omega arith)
    ]

-- how many digits say whether one is all
more_left : (n : ℕ) → 1 < length (decimal n) → 10 ≤ n
more_left n h = elim (dec_lt n 10) [ yes l ↦ absurd (omega (arith, length-short n l)) | no l ↦ omega arith ]

pub one_left : (n : ℕ) → n < 18446744073709551616 → length (decimal n) ≤ 1 → n < 10
one_left n l h = elim (dec_lt n 10) [ yes k ↦ k | no k ↦ absurd (omega (arith, length-turn n (omega arith) l, length-some (n / 10))) ]

-- i digits of d are left, those of n, and behind them stand those of o from i on: the last one left is put before these
module _ (o d : List ℕ) (n i : ℕ) (l : n < 18446744073709551616) (e : length (decimal n) ≡ i) where
  pub length-less : 1 < i → length (decimal (n / 10)) ≡ i - 1
  length-less h = omega (arith, length-turn n (more_left n (omega arith)) l)

  pub write_turn : 1 < i → i ≤ length o → d ≡ decimal n ++ drop i o → d ≡ decimal (n / 10) ++ drop (i - 1) (set o (i - 1) (48 + n % 10))
  write_turn h k f =
      let a : i - 1 + 1 ≡ i = omega arith in
      rw (f, decimal-turn n (more_left n (omega arith)) l, drop-set o (i - 1) (48 + n % 10) (omega arith), a) (append_assoc (decimal (n / 10)) ((48 + n % 10) ∷ []) (drop i o))

  pub write_done : i ≤ 1 → i ≤ length o → d ≡ decimal n ++ drop i o → set o 0 (48 + n) ≡ d
  write_done h k f =
      let a : i ≡ 1 = omega (arith, length-some n) in
      rw (f, decimal-short n (one_left n l (omega arith)), a) (drop-set o 0 (48 + n) (omega arith))

-- ---- hex: a byte more
module _ (o l : List ℕ) (i : ℕ) (n : length o ≡ 2 * length l) (f : take (2 * i) o ≡ hex_bytes (take i l)) where
  pub hex-turn : (x y : ℕ) → i < length l → x ≡ hex_digit (get_or l i 0 / 16) → y ≡ hex_digit (get_or l i 0 % 16) → take (2 * (i + 1)) (set (set o (2 * i) x) (2 * i + 1) y) ≡ hex_bytes (take (i + 1) l)
  unfolding hex_bytes
  hex-turn x y h e g =
      let a : 2 * (i + 1) ≡ suc (2 * i + 1) = omega arith in
      let b : 2 * i + 1 ≡ suc (2 * i) = omega arith in
      let m = length-set o (2 * i) x in
      rw (a, take-suc-set (set o (2 * i) x) (2 * i + 1) y (omega (arith, m)), b, take-suc-set o (2 * i) x (omega arith), f, add-one i, take-suc l i 0 h, hex-append (take i l) (get_or l i 0 ∷ []), ← e, ← g)
      (append_assoc (hex_bytes (take i l)) (x ∷ []) (y ∷ []))

  pub hex-done : length l ≤ i → o ≡ hex_bytes l
  hex-done h = sym (take_all (2 * i) o (omega arith)) ∙ f ∙ ap hex_bytes (take_all i l h)

-- ---- numbers that are left to put, a blank before each
module _ (l : List ℕ) (j : ℕ) where
  pub words-turn : j < length l → number_words (drop j l) ≡ (32 ∷ []) ++ decimal (get_or l j 0) ++ number_words (drop (j + 1) l)
  unfolding number_words
  words-turn h = rw (add-one j, drop-cons l j 0 h)

  pub words-done : length l ≤ j → number_words (drop j l) ≡ 10 ∷ []
  unfolding number_words
  words-done h = rw (drop_of_length-le l h)

-- ---- a truth as a number
pub as_number : (b : Bool) → bool_byte b ≡ pick b 1 0
as_number true = refl
as_number false = refl

-- ---- what the functions ask
pub ruleset lined = (adds-then, length-decimal, as_number)

pub ruleset keyed = (length-hex, key-none, length-append)

pub ruleset numbered = (length-decimal, left-all, left-done, words-done)

pub ruleset counted = (length-decimal, length-short, length-two, length-three, length-four, length-more)

pub ruleset spelled = (length-some, one_left, length-less, write_turn, write_done)
