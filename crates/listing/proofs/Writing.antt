-- Texts written one after the other, and the parts of an entry's line. Assumes nothing.
use Rattle.std.proofs.Common.{◌≡◌, refl, sym, ap, ◌∙◌, List, [], ◌∷◌, ◌++◌, append_assoc, ℕ, ◌+◌, ◌*◌, ◌≤◌, ◌<◌, min, arith, length, length-append}
use native.Mathlib.Decide.{dec_le}
use Rattle.octets.specs.Bytes.{le}
use Rattle.paper.specs.Page.{body_bytes}
use Rattle.paper.specs.Printed.{decimal, number_words, hex_bytes, hex_key, entry_line}
use Rattle.paper.proofs.Same.{body_bytes_long}
use Rattle.listing.specs.Line.{Line, Adds}

-- one text behind another are one text
pub adds-then : (a b d : Line) (l k : List ℕ) → Adds a l b → Adds b k d → Adds a (l ++ k) d
adds-then a b d l k f g = record { text = g.text ∙ rw f.text (append_assoc a.text l k); room = rw length-append (omega (arith, f.room, g.room)) }

pub adds_is : (a b : Line) (l k : List ℕ) → l ≡ k → Adds a l b → Adds a k b
adds_is a b l k e f = rw (← e) f

-- text and room together stay as many
pub adds-size : (a b : Line) (l : List ℕ) → Adds a l b → length b.text + b.room ≡ length a.text + a.room
adds-size a b l f = rw (f.text, length-append) (omega (arith, f.room))

-- where no text stood
pub adds_first : (a b : Line) (t : List ℕ) → a.text ≡ [] → Adds a t b → b.text ≡ t
adds_first a b t e f = f.text ∙ ap (λ l. l ++ t) e

-- b is the line a with a text l behind it, but for what of that is left
pub record Left (a : Line) (l : List ℕ) (b : Line) (left : List ℕ) : Type 0 where
  pub text : a.text ++ l ≡ b.text ++ left
  pub room : length l + b.room ≡ length left + a.room

pub left-all : (a : Line) (l : List ℕ) → Left a l a l
left-all a l = record { text = refl; room = refl }

-- some of it is put in
pub left-less : (a b d : Line) (l k m : List ℕ) → Left a l b (k ++ m) → Adds b k d → Left a l d m
left-less a b d l k m f g =
    let n = length-append k m in
    record { text = f.text ∙ rw g.text (sym (append_assoc b.text k m)); room = omega (arith, n, f.room, g.room) }

-- the last of it is
pub left-done : (a b d : Line) (l k : List ℕ) → Left a l b k → Adds b k d → Adds a l d
left-done a b d l k f g = record { text = g.text ∙ sym f.text; room = omega (arith, f.room, g.room) }

-- ---- keys in hex
pub hex-append : (a b : List ℕ) → hex_bytes (a ++ b) ≡ hex_bytes a ++ hex_bytes b
unfolding hex_bytes
hex-append [] b = refl
hex-append (x ∷ a) b = rw (hex-append a b)

no_bytes : (l : List ℕ) → length l ≡ 0 → l ≡ []
no_bytes [] e = refl
no_bytes (x ∷ l) e = absurd (omega arith)

pub key-none : (l : List ℕ) → length l ≡ 0 → hex_key l ≡ 45 ∷ []
unfolding hex_key
key-none l e = rw (no_bytes l e)

key_some : (l : List ℕ) → 0 < length l → hex_key l ≡ hex_bytes l
unfolding hex_key
key_some [] h = absurd (omega arith)
key_some (x ∷ l) h = refl

pub key-hexed : (a b : List ℕ) → 0 < length (a ++ b) → hex_key (a ++ b) ≡ hex_bytes a ++ hex_bytes b
key-hexed a b h = key_some (a ++ b) h ∙ hex-append a b

-- the line of an entry: its number and its key, and then its value as the only number of a line
pub entry-words : (i : ℕ) (k : List ℕ) (v : ℕ) → (decimal i ++ (32 ∷ hex_key k)) ++ number_words (v ∷ []) ≡ entry_line i (record { key = k; value = v })
unfolding entry_line number_words
entry-words i k v = sym (append_assoc (decimal i ++ (32 ∷ hex_key k)) (32 ∷ decimal v) (10 ∷ []))

-- a suffix whose payload lies in the body is no longer than it
pub suffix-most : (n o w : ℕ) → o + (body_bytes 4 n + w) ≤ 16256 → n ≤ 16256
suffix-most n o w h = elim (dec_le n 4) [ yes l ↦ omega arith | no l ↦ omega (arith, body_bytes_long 4 n (omega arith)) ]

pub length-hex : (l : List ℕ) → length (hex_bytes l) ≡ 2 * length l
unfolding hex_bytes
length-hex [] = refl
length-hex (b ∷ l) = omega (arith, length-hex l)

-- the value, read at the width and not at eight
pub value_is : (w : ℕ) (p : List ℕ) (i at v : ℕ) → w ≤ 8 → i ≡ at → v ≡ le (min w 8) p i → v ≡ le w p at
value_is w p i at v h e f = let g : min w 8 ≡ w = omega arith in f ∙ rw (g, e)
