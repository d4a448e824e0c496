-- What each writer leaves, as the paper spells it: a header field by field, a slot, a payload, an entry. Assumes nothing.
use Rattle.std.proofs.Common.{◌≡◌, refl, List, ℕ, ◌+◌, ◌-◌, ◌≤◌, zero-add, arith, length, length-append}
use Rattle.octets.specs.Bytes.{bytes, put}
use Rattle.octets.proofs.Put.{put-append}
use Rattle.octets.proofs.Little.{length-bytes}
use Rattle.paper.specs.Page.{body_bytes}
use Rattle.paper.specs.Space.{payload_bytes, need}
use Rattle.paper.specs.Headers.{with_count, with_start, with_end, with_effective}
use Rattle.paper.specs.Edits.{outline, payload_of, slot_bytes, more}
use Rattle.paper.specs.declared.page.Header.{Header}
use Rattle.paper.specs.declared.page.Slot.{Slot}
use Rattle.paper.proofs.Same.{body_bytes_short}
use Rattle.paper.proofs.Payloads.{length-outline}
use Rattle.node.specs.Header.{numbers_in}
use Rattle.write.specs.Room.{with_numbers}

-- ---- headers
-- an entry more, edited field by field: n of the suffix's k bytes go into the body
module _ (w : ℕ) (h : Header) (k n : ℕ) (m : n ≡ body_bytes 4 k) (room : h.start + 8 + payload_bytes w k ≤ h.end) where
  pub filed-is : (a b c g : Header) → a ≡ with_count h (h.count + 1) → b ≡ with_start a (h.start + 8) → c ≡ with_end b (h.end - (n + w))
      → g ≡ with_effective c (h.effective + 8 + (n + w))
      → (g ≡ with_numbers h (more w (numbers_in h) k)) × ((g.count ≡ h.count + 1) × (g.end + payload_bytes w k ≡ h.end))
  unfolding with_effective with_end with_start with_count with_numbers more need
  filed-is a b c g ea eb ec eg =
      let total : h.effective + 8 + (n + w) ≡ h.effective + (8 + w + body_bytes 4 k) = omega arith in
      rw (eg, ec, eb, ea) (rw (total, m), (refl, omega arith))

-- ---- slots
-- length, offset and head one after the other
pub slot_written : (p : List ℕ) (o : ℕ) (s : Slot) → put (put (put p o (bytes 2 s.len)) (o + 2) (bytes 2 s.offset)) (o + 4) (bytes 4 s.head) ≡ put p o (slot_bytes s)
unfolding slot_bytes
slot_written p o s = simp (put-append, length-append, length-bytes)

-- ---- payloads
-- a suffix of up to four bytes has none there
pub short_written : (p s : List ℕ) → length s ≤ 4 → p ≡ put p 0 (outline 4 s)
unfolding put
short_written p s h = rw (body_bytes_short 4 (length s) h)

-- what of a suffix goes into the body, and the value behind it
pub payload_written : (p : List ℕ) (w : ℕ) (s : List ℕ) (v : ℕ) → put (put p 0 (outline 4 s)) (body_bytes 4 (length s)) (bytes w v) ≡ put p 0 (payload_of w s v)
payload_written p w s v = rw (put-append, zero-add, length-outline)
