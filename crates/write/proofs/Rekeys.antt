-- A key changed, and a value set: where the payload goes and what it finds there, the writers one after the other, and the header of the
-- page that they leave. Assumes nothing.
use Rattle.std.proofs.Common.{◌≡◌, refl, sym, ◌∙◌, Bool, true, false, List, ℕ, ◌+◌, ◌*◌, ◌-◌, ◌≤◌, ◌<◌, min, arith, length, Option, Some, None}
use Rattle.std.specs.Option.{unwrap_or}
use Rattle.octets.specs.Bytes.{le, put}
use Rattle.octets.proofs.Put.{length-put, put_below}
use Rattle.keys.specs.Choice.{pick}
use Rattle.paper.specs.Page.{slot_at, place, slot_of, value_at, body_bytes, numbers_of, header_of}
use Rattle.paper.specs.Space.{payload_bytes}
use Rattle.paper.specs.Headers.{with_end, with_effective}
use Rattle.paper.specs.Edits.{payload_of, slot_for, slot_bytes, put_all, number_fields, outgrows, key_place, rekeyed, key_put}
use Rattle.paper.specs.declared.page.Header.{Header}
use Rattle.paper.specs.declared.page.Slot.{Slot}
use Rattle.paper.proofs.Same.{Same, body_bytes-le, body_bytes_long}
use Rattle.paper.proofs.Stages.{Fits}
use Rattle.paper.proofs.Changing.{outgrown, fits_in}
use Rattle.node.specs.Header.{numbers_in}
use Rattle.write.specs.Room.{with_numbers, Seat}
use Rattle.write.proofs.Filings.{numbers_are, header-numbers}

-- the value that was read
pub value_is : (w : ℕ) (p : List ℕ) (o : Slot) (at v : ℕ) → w ≤ 8 → at ≡ value_at o → v ≡ le (min w 8) p at → v ≡ le w p (value_at o)
value_is w p o at v h a e = let m : min w 8 ≡ w = omega arith in e ∙ rw (m, a)

-- the value of a slot whose payload lies in the body lies there too
pub value-within : (w : ℕ) (p : List ℕ) (i : ℕ) (o : Slot) (at : ℕ) → o ≡ slot_at p (place i) → at ≡ value_at o → (slot_of p i).offset + payload_bytes w (slot_of p i).len ≤ 16256
    → at + w ≤ 16384
unfolding slot_of
value-within w p i o at e a h = rw (a, e) (omega arith)

-- ---- a new payload, or the old place
pub place_or : (m : Option ℕ) (t : Bool) (x y r : ℕ) → m ≡ pick t (Some x) None → r ≡ unwrap_or m y → r ≡ pick t x y
place_or m true x y r e f = rw (f, e)
place_or m false x y r e f = rw (f, e)

-- ---- a key change whose slot was read as o
module _ (w : ℕ) (p : List ℕ) (h : Header) (i : ℕ) (s : List ℕ) (R : Seat w p h i s) (o : Slot) (E : o ≡ slot_at p (place i)) where
  -- a new payload lies below the end
  pub seat-room : outgrows o s ≡ true → length s + w ≤ h.end
  unfolding slot_of
  seat-room g =
      let long = body_bytes_long 4 (length s) (outgrown o s g).0 in
      omega (arith, long, R.room (rw (sym E) g))

  seat-payload : o.offset + payload_bytes w o.len ≤ 16256
  unfolding slot_of
  seat-payload = rw E R.payload

  -- wherever the payload goes, it lies in the body
  seat-high : (at : ℕ) → at ≡ pick (outgrows o s) (h.end - (length s + w)) o.offset → at + payload_bytes w (length s) ≤ 16256
  seat-high at a = go (outgrows o s) refl a
    where
      go : (b : Bool) → outgrows o s ≡ b → at ≡ pick b (h.end - (length s + w)) o.offset → at + payload_bytes w (length s) ≤ 16256
      go true g a = omega (arith, body_bytes_long 4 (length s) (outgrown o s g).0, seat-room g, R.top)
      go false g a = omega (arith, fits_in o s g, seat-payload)

  -- all that the writer of payload and slot asks for
  pub seat-put : (at : ℕ) → at ≡ pick (outgrows o s) (h.end - (length s + w)) o.offset
      → (w ≤ 8) × (length s ≤ 65535) × (104 + 8 * i ≤ length p) × (value_at o + w ≤ length p) × (96 + at + payload_bytes w (length s) ≤ length p)
  seat-put at a = (
    R.width,
    R.suffix,
    omega (arith, R.size, R.slot, R.start, R.order, R.top),
    omega (arith, R.size, value-within w p i o (value_at o) E refl R.payload),
    omega (arith, R.size, seat-high at a),
  )

  -- the bytes that the old suffix takes are counted
  pub seat-dropped : body_bytes 4 o.len ≤ h.effective
  unfolding slot_of
  seat-dropped = rw E R.dropped

  -- payload, slot and numbers written one after the other: q is what the first two leave, r what all leave
  pub rekey-written : (at : ℕ) → at ≡ pick (outgrows o s) (h.end - (length s + w)) o.offset
      → (q : List ℕ) → q ≡ put (put p (96 + at) (payload_of w s (le w p (value_at o)))) (place i) (slot_bytes (slot_for s at))
      → (e : ℕ) → e ≡ pick (outgrows o s) (h.end - (length s + w)) h.end
      → (g : Header) → g ≡ with_effective (with_end h e) (h.effective + body_bytes 4 (length s) - body_bytes 4 o.len)
      → (r : List ℕ) → r ≡ put_all q (number_fields (numbers_in g))
      → (g ≡ with_numbers h (rekeyed w (numbers_in h) (slot_of p i) s)) × (r ≡ put_all (key_put w p i s) (number_fields (rekeyed w (numbers_of p) (slot_of p i) s)))
  unfolding slot_of key_put key_place with_end with_effective with_numbers rekeyed header_of
  rekey-written at ea q eq e ee g eg r er = (rw (eg, ee, E), rw (er, eq, eg, ea, ee, R.header, E))

-- ---- the page after it
module _ (w : ℕ) (p : List ℕ) (h : Header) (i : ℕ) (s : List ℕ) (R : Seat w p h i s) (g : Header) (e : g ≡ with_numbers h (rekeyed w (numbers_in h) (slot_of p i) s)) where
  -- its hints stand for slots of the page
  pub rekeyed-slots : 96 + 8 * g.count ≤ 16384
  unfolding with_numbers rekeyed
  rekeyed-slots = rw e (omega (arith, R.start, R.order, R.top))

  header-same : Same (key_put w p i s) p 0 96
  unfolding key_put
  header-same j a b = put_below _ (place i) _ j (omega arith) ∙ put_below p _ _ j (omega arith)

  long : 96 ≤ length (key_put w p i s)
  unfolding key_put
  long = rw (length-put, length-put) (omega (arith, R.size))

  fits : Fits (rekeyed w (numbers_in h) (slot_of p i) s)
  unfolding rekeyed
  fits =
      record {
        count = omega (arith, R.start, R.order, R.top);
        start = omega (arith, R.order, R.top);
        end = below (outgrows (slot_of p i) s);
        effective = omega (arith, R.effective, R.suffix, body_bytes-le 4 (length s));
      }
    where
      below : (b : Bool) → pick b (h.end - (length s + w)) h.end < 65536
      below true = omega (arith, R.top)
      below false = omega (arith, R.top)

  -- the header is then the page's
  pub rekey-header : g ≡ header_of (put_all (key_put w p i s) (number_fields (rekeyed w (numbers_of p) (slot_of p i) s)))
  rekey-header =
      rw (numbers_are p h R.header)
      (e ∙ sym (header-numbers (key_put w p i s) p (rekeyed w (numbers_in h) (slot_of p i) s) long fits header-same ∙ rw (← R.header)))
