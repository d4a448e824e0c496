-- A suffix and its value written into the body read back as the row that they make. Assumes nothing.
use Rattle.std.proofs.Common.{◌≡◌, refl, sym, ap, ◌∙◌, List, ℕ, ◌+◌, ◌^◌, ◌≤◌, ◌<◌, arith, le-leb, leb, length, take, length-append, length-take-le}
use native.Mathlib.Decide.{dec_le}
use borrow.Author.Tests.{lt-leb}
use lib.Seq.{take-length}
use Rattle.octets.specs.Bytes.{IsBytes, le, part, big_bytes, bytes, put}
use Rattle.octets.proofs.Put.{length-put, put-append, append-bytes, take-bytes}
use Rattle.octets.proofs.Alike.{part-put-below, part-put_same}
use Rattle.octets.proofs.Little.{length-bytes, bytes-bytes, le-put_same}
use Rattle.octets.proofs.Big.{be-lt, big_bytes-be}
use Rattle.keys.specs.Choice.{pick}
use Rattle.keys.specs.Keys.{head_of}
use Rattle.paper.specs.Page.{suffix_of, body_bytes, row_of}
use Rattle.paper.specs.Space.{payload_bytes}
use Rattle.paper.specs.Edits.{outline, slot_for, payload_of}
use Rattle.paper.specs.Views.{row_for}
use Rattle.paper.proofs.Same.{Same, same-le, same-part, body_bytes-le, body_bytes_long, le-body_bytes}
use Rattle.paper.proofs.Slots.{SlotFits}

pub length-outline : (m : ℕ) (s : List ℕ) → length (outline m s) ≡ body_bytes m (length s)
length-outline m s = length-take-le (body_bytes m (length s)) s (body_bytes-le m (length s))

pub length-payload : (w : ℕ) (s : List ℕ) (v : ℕ) → length (payload_of w s v) ≡ payload_bytes w (length s)
length-payload w s v = rw (length-append, length-bytes, length-outline 4 s)

pub payload-bytes : (w : ℕ) (s : List ℕ) (v : ℕ) → IsBytes s → IsBytes (payload_of w s v)
payload-bytes w s v h = append-bytes (outline 4 s) (bytes w v) (take-bytes (body_bytes 4 (length s)) s h) (bytes-bytes w v)

-- a slot for a suffix that the body holds
pub slot_for_fits : (s : List ℕ) (o : ℕ) → IsBytes s → o + body_bytes 4 (length s) ≤ 16256 → SlotFits (slot_for s o)
unfolding slot_for head_of
slot_for_fits s o h l = record { len = omega (arith, le-body_bytes 4 (length s)); offset = omega arith; head = be-lt 4 s 0 h }

module _ (w : ℕ) (p : List ℕ) (o : ℕ) (s : List ℕ) (v : ℕ) (size : length p ≡ 16384) (room : o + payload_bytes w (length s) ≤ 16256) (hs : IsBytes s) (hv : v < 256 ^ w) where
  abbrev put-at : List ℕ
  put-at = put p (96 + o) (payload_of w s v)

  two : put-at ≡ put (put p (96 + o) (outline 4 s)) (96 + o + body_bytes 4 (length s)) (bytes w v)
  two = put-append p (96 + o) (outline 4 s) (bytes w v) ∙ rw (length-outline 4 s)

  value-back : le w put-at (96 + o + body_bytes 4 (length s)) ≡ v
  value-back = rw two (le-put_same w (put p (96 + o) (outline 4 s)) (96 + o + body_bytes 4 (length s)) v (rw length-put (omega arith)) hv)

  suffix-back : 4 < length s → part (length s) put-at (96 + o) ≡ s
  suffix-back h =
      let k : body_bytes 4 (length s) ≡ length s = body_bytes_long 4 (length s) h in
      let whole : outline 4 s ≡ s = ap (λ (x : ℕ). take x s) k ∙ take-length s in
      rw two
      (part-put-below (length s) (put p (96 + o) (outline 4 s)) (96 + o + body_bytes 4 (length s)) (bytes w v) (96 + o) (omega arith)
      ∙ rw whole (part-put_same p (96 + o) s (length s) refl (omega arith)))

  -- on any page that has these bytes
  pub row_back : (q : List ℕ) → length q ≡ length p → Same q put-at (96 + o) (96 + o + payload_bytes w (length s)) → row_of w q (slot_for s o) ≡ row_for s v o
  unfolding row_of row_for suffix_of slot_for head_of
  row_back q l h =
      let value : le w q (96 + o + body_bytes 4 (length s)) ≡ v =
      same-le q put-at (96 + o) (96 + o + payload_bytes w (length s)) h w (96 + o + body_bytes 4 (length s)) (omega arith) (omega arith) ∙ value-back in
      λ k. record { slot = slot_for s o; suffix = suffix (dec_le (length s) 4) k; value = value k }
    where
      suffix : Dec (length s ≤ 4) → pick (leb (length s) 4) (take (length s) (big_bytes 4 (head_of s))) (part (length s) q (96 + o)) ≡ s
      suffix (yes d) = rw (le-leb (length s) 4 d) (unfold head_of in big_bytes-be 4 s hs d)
      suffix (no d) =
          let k : body_bytes 4 (length s) ≡ length s = body_bytes_long 4 (length s) (omega arith) in
          rw (lt-leb (length s) 4 (omega arith))
          (same-part q put-at (96 + o) (96 + o + payload_bytes w (length s)) h (l ∙ sym (length-put p (96 + o) (payload_of w s v))) (length s) (96 + o) (omega arith) (omega arith)
          ∙ suffix-back (omega arith))
