-- Begin on the page is begin on its view: the three runs lie side by side at the end of the body, the fields of the header read back since no
-- later write meets them, and the inline prefix is written last. All other bytes keep their old content. Assumes nothing.
use Rattle.std.proofs.Common.{◌≡◌, refl, sym, ap, ◌∙◌, Bool, true, false, List, [], ◌++◌, ℕ, ◌+◌, ◌-◌, ◌^◌, ◌≤◌, ◌<◌, zero-add, arith, le-leb, leb, eqb, length, take, get_or, length-drop, take-append-drop, length-take-le, ext_get_or}
use native.Mathlib.Decide.{dec_le, dec_lt}
use borrow.Author.Tests.{lt-leb}
use lib.Seq.{take-length}
use Rattle.octets.specs.Bytes.{IsBytes, le, part, big_bytes, put}
use Rattle.octets.proofs.Part.{length-part-le, part_at}
use Rattle.octets.proofs.Put.{length-put, put_below, put-above, put-inside, put-bytes, take-bytes, drop-bytes}
use Rattle.octets.proofs.Alike.{le-put-below, part-put-above, part-put_same}
use Rattle.octets.proofs.Big.{be-lt, big_bytes-be}
use Rattle.keys.specs.Choice.{pick}
use Rattle.keys.specs.Keys.{head_of, common}
use Rattle.keys.proofs.Prefixes.{common-le, common-take}
use Rattle.paper.specs.Lists.{tab, less}
use Rattle.paper.specs.Page.{slot_at, prefix_of, suffix_of, body_bytes, rows_of, frame_of, Numbers, numbers_of, hints_of, view_of}
use Rattle.paper.specs.Space.{fence_bytes, begin_bytes}
use Rattle.paper.specs.Edits.{put_all, fence_slot, outline, Begin, begin_prefix, begin_lower, begin_upper, prefix_start, lower_start, upper_start, fences_placed, begin_fields, inlined, begun}
use Rattle.paper.specs.Views.{begin_frame, begin_view}
use Rattle.paper.proofs.Same.{Same, same-part, same-hints, body_bytes_long}
use Rattle.paper.proofs.Fields.{nth, settled, length-put_all, put_all-bytes, same_clear, le-field}
use Rattle.paper.proofs.Payloads.{length-outline}

-- what begin's tests say of what it is given
pub record Begins (b : Begin) : Type 0 where
  pub lower_length : length b.lower ≤ 65535
  pub upper_length : length b.upper ≤ 65535
  pub order : pick (eqb (length b.upper) 0) true (less b.lower b.upper) ≡ true
  pub room : begin_bytes b.lower b.upper ≤ 16256

-- and what the types of its arguments say
pub record Typed (b : Begin) : Type 0 where
  pub height : b.height < 65536
  pub timestamp : b.timestamp < 18446744073709551616
  pub lower_value : b.lower_value < 18446744073709551616
  pub lower : IsBytes b.lower
  pub upper : IsBytes b.upper

-- ---- runs
-- a run put where a part begins is put into the part
pub part-put : (n : ℕ) (q : List ℕ) (o : ℕ) (bs : List ℕ) → length bs ≤ n → o + n ≤ length q → part n (put q o bs) o ≡ put (part n q o) 0 bs
part-put n q o bs h l =
    let size : length (part n q o) ≡ n = length-part-le n q o l in
    let size-put : length (part n (put q o bs) o) ≡ n = length-part-le n (put q o bs) o (rw length-put l) in
    ext_get_or 0 (part n (put q o bs) o) (put (part n q o) 0 bs) (rw length-put (size-put ∙ sym size))
    (λ i k. let m : i < n = omega arith in part_at n (put q o bs) o i m ∙ go i m (dec_lt i (length bs)))
  where
    go : (i : ℕ) → i < n → Dec (i < length bs) → get_or (put q o bs) (o + i) 0 ≡ get_or (put (part n q o) 0 bs) i 0
    go i m (yes d) =
        put-inside q o bs i (omega arith) d
        ∙ sym (rw (zero-add i) at (put-inside (part n q o) 0 bs i (omega (arith, length-part-le n q o l)) d))
    go i m (no d) = put-above q o bs (o + i) (omega arith) ∙ sym (put-above (part n q o) 0 bs i (omega arith) ∙ part_at n q o i m)

-- a run that lives in the body is all of it
outline_long : (m : ℕ) (s : List ℕ) → m < length s → outline m s ≡ s
outline_long m s h = ap (λ (x : ℕ). take x s) (body_bytes_long m (length s) h) ∙ take-length s

-- an inline prefix is all of it
inlined_short : (s : List ℕ) → length s ≤ 16 → inlined s ≡ s
inlined_short s h = rw (le-leb (length s) 16 h)

-- what is inline is at most 16 bytes
length-inlined : (s : List ℕ) → length (inlined s) ≤ 16
length-inlined s = elim (dec_le (length s) 16) [ yes h ↦ rw (le-leb (length s) 16 h) h | no h ↦ rw (lt-leb (length s) 16 (omega arith)) (omega arith) ]

-- a fence reads back where its suffix is short, or stands in the body
fence_back : (q : List ℕ) (s : List ℕ) (o : ℕ) → IsBytes s → (4 < length s → part (length s) q (96 + o) ≡ s) → suffix_of q (fence_slot s o) ≡ s
unfolding suffix_of fence_slot head_of
fence_back q s o b h = go (dec_le (length s) 4)
  where
    go : Dec (length s ≤ 4) → pick (leb (length s) 4) (take (length s) (big_bytes 4 (head_of s))) (part (length s) q (96 + pick (leb (length s) 4) 0 o)) ≡ s
    go (yes d) = rw (le-leb (length s) 4 d) (unfold head_of in big_bytes-be 4 s b d)
    go (no d) = rw (lt-leb (length s) 4 (omega arith)) (h (omega arith))

-- an offset and a flag fit their fields
offset-lt : (t : Bool) (o : ℕ) → o < 65536 → pick t 0 o < 65536
offset-lt true o h = omega arith
offset-lt false o h = h

flag-lt : (t : Bool) → pick t 1 0 < 256
flag-lt true = omega arith
flag-lt false = omega arith

-- ---- the lengths of prefix and suffixes
module _ (b : Begin) where
  -- those of the common part, and of what is left of each fence
  pub length-beginPrefix : length (begin_prefix b) ≡ common b.lower b.upper
  length-beginPrefix = length-take-le (common b.lower b.upper) b.lower (common-le b.lower b.upper).0

  pub length-beginLower : length (begin_lower b) ≡ length b.lower - common b.lower b.upper
  length-beginLower = length-drop (common b.lower b.upper) b.lower

  pub length-beginUpper : length (begin_upper b) ≡ length b.upper - common b.lower b.upper
  length-beginUpper = length-drop (common b.lower b.upper) b.upper

  -- prefix and suffix are the fence
  pub begin-lower : begin_prefix b ++ begin_lower b ≡ b.lower
  begin-lower = take-append-drop (common b.lower b.upper) b.lower

  pub begin-upper : begin_prefix b ++ begin_upper b ≡ b.upper
  begin-upper = rw (common-take b.lower b.upper (common b.lower b.upper) (omega arith)) (take-append-drop (common b.lower b.upper) b.upper)

  -- the body bytes of the three
  pub begin-bytes : begin_bytes b.lower b.upper ≡ fence_bytes (length (begin_prefix b)) (length (begin_lower b)) (length (begin_upper b))
  unfolding begin_bytes
  begin-bytes = rw (length-beginPrefix, length-beginLower, length-beginUpper)

  module _ (B : Begins b) where
    -- there is room for the three
    pub begin-room : body_bytes 16 (length (begin_prefix b)) + body_bytes 4 (length (begin_lower b)) + body_bytes 4 (length (begin_upper b)) ≤ 16256
    unfolding fence_bytes
    begin-room = rw begin-bytes at B.room

-- ---- the three runs, side by side up to the end of the body
module _ (p : List ℕ) (b : Begin) (size : length p ≡ 16384) (B : Begins b) where
  abbrev one : List ℕ
  one = put p (96 + prefix_start b) (outline 16 (begin_prefix b))

  abbrev two : List ℕ
  two = put one (96 + lower_start b) (outline 4 (begin_lower b))

  abbrev three : List ℕ
  three = fences_placed p b

  -- no run changes the length
  length-one : length one ≡ 16384
  length-one = length-put p (96 + prefix_start b) (outline 16 (begin_prefix b)) ∙ size

  length_two : length two ≡ 16384
  length_two = length-put one (96 + lower_start b) (outline 4 (begin_lower b)) ∙ length-one

  length_three : length three ≡ 16384
  unfolding fences_placed
  length_three = length-put two (96 + upper_start b) (outline 4 (begin_upper b)) ∙ length_two

  -- below the runs nothing changes
  three-below : (j : ℕ) → j < 96 + upper_start b → get_or three j 0 ≡ get_or p j 0
  unfolding fences_placed
  three-below j h =
      put_below two (96 + upper_start b) (outline 4 (begin_upper b)) j h
      ∙ put_below one (96 + lower_start b) (outline 4 (begin_lower b)) j (omega arith)
      ∙ put_below p (96 + prefix_start b) (outline 16 (begin_prefix b)) j (omega arith)

  -- nor above them
  three-above : (j : ℕ) → 16352 ≤ j → get_or three j 0 ≡ get_or p j 0
  unfolding fences_placed
  three-above j h =
      let r = begin-room b B in
      put-above two (96 + upper_start b) (outline 4 (begin_upper b)) j (rw (length-outline 4 (begin_upper b)) (omega arith))
      ∙ put-above one (96 + lower_start b) (outline 4 (begin_lower b)) j (rw (length-outline 4 (begin_lower b)) (omega arith))
      ∙ put-above p (96 + prefix_start b) (outline 16 (begin_prefix b)) j (rw (length-outline 16 (begin_prefix b)) (omega arith))

  -- the prefix stands at the end of the body
  prefix-there : 16 < length (begin_prefix b) → part (length (begin_prefix b)) three (96 + prefix_start b) ≡ begin_prefix b
  unfolding fences_placed
  prefix-there h =
      let r = begin-room b B in
      let k = body_bytes_long 16 (length (begin_prefix b)) h in
      let n = length (begin_prefix b) in
      part-put-above n two (96 + upper_start b) (outline 4 (begin_upper b)) (96 + prefix_start b) (rw (length-outline 4 (begin_upper b)) (omega arith))
      ∙ part-put-above n one (96 + lower_start b) (outline 4 (begin_lower b)) (96 + prefix_start b) (rw (length-outline 4 (begin_lower b)) (omega arith))
      ∙ rw (outline_long 16 (begin_prefix b) h) (part-put_same p (96 + prefix_start b) (begin_prefix b) n refl (omega arith))

  -- the lower fence's suffix below it
  lower-there : 4 < length (begin_lower b) → part (length (begin_lower b)) three (96 + lower_start b) ≡ begin_lower b
  unfolding fences_placed
  lower-there h =
      let r = begin-room b B in
      let k = body_bytes_long 4 (length (begin_lower b)) h in
      let n = length (begin_lower b) in
      part-put-above n two (96 + upper_start b) (outline 4 (begin_upper b)) (96 + lower_start b) (rw (length-outline 4 (begin_upper b)) (omega arith))
      ∙ rw (outline_long 4 (begin_lower b) h) (part-put_same one (96 + lower_start b) (begin_lower b) n refl (rw length-one (omega arith)))

  -- and the upper fence's suffix below that
  upper-there : 4 < length (begin_upper b) → part (length (begin_upper b)) three (96 + upper_start b) ≡ begin_upper b
  unfolding fences_placed
  upper-there h =
      let r = begin-room b B in
      let k = body_bytes_long 4 (length (begin_upper b)) h in
      let n = length (begin_upper b) in
      rw (outline_long 4 (begin_upper b) h) (part-put_same two (96 + upper_start b) (begin_upper b) n refl (rw length_two (omega arith)))

  -- ---- what stays
  abbrev four : List ℕ
  four = put_all (fences_placed p b) (begin_fields b)

  abbrev q : List ℕ
  q = begun p b

  -- nor do the fields
  length_four : length four ≡ 16384
  length_four = length-put_all three (begin_fields b) ∙ length_three

  pub length-begun : length (begun p b) ≡ 16384
  unfolding begun
  length-begun = length-put four 48 (inlined (begin_prefix b)) ∙ length_four

  -- the body is what the three runs left
  body-three : Same q three 96 16384
  unfolding begun begin_fields
  body-three j l m = put-above four 48 (inlined (begin_prefix b)) j (omega (arith, length-inlined (begin_prefix b))) ∙ same_clear three (begin_fields b) 96 16288 refl j l m

  -- inline bytes behind the prefix, the hints, and the body below the runs
  pub begin-kept : Same (begun p b) p (48 + length (inlined (begin_prefix b))) (96 + upper_start b)
  begin-kept j l m = go (dec_lt j 96)
    where
      head : j < 96 → get_or (begun p b) j 0 ≡ get_or p j 0
      head d = unfold begun begin_fields in
          put-above four 48 (inlined (begin_prefix b)) j l ∙ same_clear three (begin_fields b) 48 48 refl j (omega arith) d ∙ three-below j m

      go : Dec (j < 96) → get_or (begun p b) j 0 ≡ get_or p j 0
      go (yes d) = head d
      go (no d) = body-three j (omega arith) (omega arith) ∙ three-below j m

  -- and the footer
  pub begin-footer : Same (begun p b) p 16352 16384
  begin-footer j l m = body-three j (omega arith) m ∙ three-above j l

  -- ---- the header
  -- field i reads back
  field_back : (i : ℕ) → settled 48 (begin_fields b) i ≡ true → (nth (begin_fields b) i).place + (nth (begin_fields b) i).width ≤ 48
      → (nth (begin_fields b) i).value < 256 ^ (nth (begin_fields b) i).width
      → le (nth (begin_fields b) i).width (begun p b) (nth (begin_fields b) i).place ≡ (nth (begin_fields b) i).value
  unfolding begun
  field_back i s h v =
      le-put-below (nth (begin_fields b) i).width four 48 (inlined (begin_prefix b)) (nth (begin_fields b) i).place h
      ∙ le-field (begin_fields b) i three 48 (rw length_three (omega arith)) s v

  -- ---- the prefix reads back
  inline-back : part 16 (begun p b) 48 ≡ put (part 16 p 48) 0 (inlined (begin_prefix b))
  unfolding begun begin_fields
  inline-back =
      part-put 16 four 48 (inlined (begin_prefix b)) (length-inlined (begin_prefix b)) (rw length_four (omega arith))
      ∙ ap (λ (x : List ℕ). put x 0 (inlined (begin_prefix b)))
      (same-part four p 48 64 (λ j l m. same_clear three (begin_fields b) 48 16 refl j l m ∙ three-below j (omega arith)) (length_four ∙ sym size) 16 48 (omega arith) (omega arith))

  -- a short prefix from the header
  prefix-inline : length (begin_prefix b) ≤ 16 → part (length (begin_prefix b)) (begun p b) 48 ≡ begin_prefix b
  unfolding begun
  prefix-inline h = rw (inlined_short (begin_prefix b) h) (part-put_same four 48 (begin_prefix b) (length (begin_prefix b)) refl (rw length_four (omega arith)))

  -- a long one from the body
  prefix_long : 16 < length (begin_prefix b) → part (length (begin_prefix b)) (begun p b) (16352 - length (begin_prefix b)) ≡ begin_prefix b
  prefix_long h =
      let r = begin-room b B in
      let k = body_bytes_long 16 (length (begin_prefix b)) h in
      let e : 96 + prefix_start b ≡ 16352 - length (begin_prefix b) = omega arith in
      same-part q three 96 16384 body-three (length-begun ∙ sym length_three) (length (begin_prefix b)) (16352 - length (begin_prefix b)) (omega arith) (omega arith)
      ∙ (rw e at (prefix-there h))

  -- either of them
  prefix_back : prefix_of (begun p b) (length (begin_prefix b)) ≡ begin_prefix b
  unfolding prefix_of
  prefix_back = go (dec_le (length (begin_prefix b)) 16)
    where
      go : Dec (length (begin_prefix b) ≤ 16)
          → pick (leb (length (begin_prefix b)) 16) (part (length (begin_prefix b)) (begun p b) 48) (part (length (begin_prefix b)) (begun p b) (16352 - length (begin_prefix b)))
          ≡ begin_prefix b
      go (yes h) = rw (le-leb (length (begin_prefix b)) 16 h) (prefix-inline h)
      go (no h) = rw (lt-leb (length (begin_prefix b)) 16 (omega arith)) (prefix_long (omega arith))

  -- a part of the body that the three runs left
  body-part : (n o : ℕ) → o + n ≤ 16256 → part n (begun p b) (96 + o) ≡ part n three (96 + o)
  body-part n o h = same-part q three 96 16384 body-three (length-begun ∙ sym length_three) n (96 + o) (omega arith) (omega arith)

  -- hints keep their bytes
  pub begin-hints : hints_of (begun p b) ≡ hints_of p
  begin-hints = same-hints q p 64 96 (λ j l m. begin-kept j (omega (arith, length-inlined (begin_prefix b))) (omega arith)) (omega arith) (omega arith)

  module _ (T : Typed b) where
    -- the slots of the fences
    lower-slot : slot_at (begun p b) 16 ≡ fence_slot (begin_lower b) (lower_start b)
    unfolding begin_fields fence_slot head_of
    lower-slot =
        let len = field_back 5 refl (omega arith) (omega (arith, length-beginLower b, B.lower_length)) in
        let offset = field_back 6 refl (omega arith) (offset-lt (leb (length (begin_lower b)) 4) (lower_start b) (omega arith)) in
        let head = field_back 7 refl (omega arith) (be-lt 4 (begin_lower b) 0 (drop-bytes (common b.lower b.upper) b.lower T.lower)) in
        λ k. record { len = len k; offset = offset k; head = head k }

    upper-slot : slot_at (begun p b) 32 ≡ fence_slot (begin_upper b) (upper_start b)
    unfolding begin_fields fence_slot head_of
    upper-slot =
        let len = field_back 9 refl (omega arith) (omega (arith, length-beginUpper b, B.upper_length)) in
        let offset = field_back 10 refl (omega arith) (offset-lt (leb (length (begin_upper b)) 4) (upper_start b) (omega arith)) in
        let head = field_back 11 refl (omega arith) (be-lt 4 (begin_upper b) 0 (drop-bytes (common b.lower b.upper) b.upper T.upper)) in
        λ k. record { len = len k; offset = offset k; head = head k }

    -- the length of the prefix
    prefix_len : le 2 (begun p b) 46 ≡ length (begin_prefix b)
    unfolding begin_fields
    prefix_len = field_back 15 refl (omega arith) (omega (arith, length-beginPrefix b, common-le b.lower b.upper, B.lower_length))

    -- ---- the fences read back
    lower-back : suffix_of (begun p b) (fence_slot (begin_lower b) (lower_start b)) ≡ begin_lower b
    lower-back =
        fence_back q (begin_lower b) (lower_start b) (drop-bytes (common b.lower b.upper) b.lower T.lower)
        (λ h.
        let k = body_bytes_long 4 (length (begin_lower b)) h in
        body-part (length (begin_lower b)) (lower_start b) (omega (arith, begin-room b B)) ∙ lower-there h)

    upper-back : suffix_of (begun p b) (fence_slot (begin_upper b) (upper_start b)) ≡ begin_upper b
    upper-back =
        fence_back q (begin_upper b) (upper_start b) (drop-bytes (common b.lower b.upper) b.upper T.upper)
        (λ h.
        let k = body_bytes_long 4 (length (begin_upper b)) h in
        body-part (length (begin_upper b)) (upper_start b) (omega (arith, begin-room b B)) ∙ upper-there h)

    -- the other fields
    height-back : le 2 (begun p b) 0 ≡ b.height
    unfolding begin_fields
    height-back = field_back 0 refl (omega arith) T.height

    timestamp-back : le 8 (begun p b) 8 ≡ b.timestamp
    unfolding begin_fields
    timestamp-back = field_back 4 refl (omega arith) T.timestamp

    value-back : le 8 (begun p b) 24 ≡ b.lower_value
    unfolding begin_fields
    value-back = field_back 8 refl (omega arith) T.lower_value

    initialized-back : le 1 (begun p b) 44 ≡ 1
    unfolding begin_fields
    initialized-back = field_back 13 refl (omega arith) (omega arith)

    flag-back : le 1 (begun p b) 45 ≡ pick b.flag 1 0
    unfolding begin_fields
    flag-back = field_back 14 refl (omega arith) (flag-lt b.flag)

    -- ---- the square
    -- the frame is what begin was given
    pub begin-frame : frame_of (begun p b) ≡ begin_frame (frame_of p) b
    unfolding frame_of begin_frame
    begin-frame =
        let prefix : prefix_of q (le 2 q 46) ≡ begin_prefix b = rw prefix_len prefix_back in
        let ls : suffix_of q (slot_at q 16) ≡ begin_lower b = rw lower-slot lower-back in
        let us : suffix_of q (slot_at q 32) ≡ begin_upper b = rw upper-slot upper-back in
        λ k. record {
          height = height-back k;
          timestamp = timestamp-back k;
          lower = lower-slot k;
          lower_value = value-back k;
          upper = upper-slot k;
          initialized = initialized-back k;
          flag = flag-back k;
          prefix_len = prefix_len k;
          inline = inline-back k;
          prefix = prefix k;
          lower_suffix = ls k;
          upper_suffix = us k;
        }

    -- and so are the numbers
    pub begin_numbers : numbers_of (begun p b) ≡ record { count = 0; start = 0; end = upper_start b; effective = 96 + begin_bytes b.lower b.upper }
    unfolding numbers_of begin_fields
    begin_numbers =
        let count = field_back 1 refl (omega arith) (omega arith) in
        let start = field_back 2 refl (omega arith) (omega arith) in
        let end = field_back 3 refl (omega arith) (omega arith) in
        let effective = field_back 12 refl (omega arith) (omega (arith, B.room)) in
        λ k. record { count = count k; start = start k; end = end k; effective = effective k }

    -- and so is all that the view has
    pub begin-square : (w : ℕ) → view_of w (begun p b) ≡ begin_view (view_of w p) b
    unfolding view_of begin_view
    begin-square w =
        let count : (numbers_of q).count ≡ 0 = ap (λ (m : Numbers). m.count) begin_numbers in
        let rows : rows_of w q (numbers_of q).count ≡ [] = rw count none in
        λ k. record { frame = begin-frame k; numbers = begin_numbers k; hints = begin-hints k; rows = rows k }
      where
        none : rows_of w (begun p b) 0 ≡ []
        none = unfold tab in refl

  -- ---- bytes
  pub begun-bytes : IsBytes p → Typed b → IsBytes (begun p b)
  unfolding begun fences_placed
  begun-bytes h T =
      put-bytes four 48 (inlined (begin_prefix b))
      (put_all-bytes three (begin_fields b)
      (put-bytes two (96 + upper_start b) (outline 4 (begin_upper b))
      (put-bytes one (96 + lower_start b) (outline 4 (begin_lower b))
      (put-bytes p (96 + prefix_start b) (outline 16 (begin_prefix b)) h (take-bytes (body_bytes 16 (length (begin_prefix b))) (begin_prefix b) pre))
      (take-bytes (body_bytes 4 (length (begin_lower b))) (begin_lower b) (drop-bytes (common b.lower b.upper) b.lower T.lower)))
      (take-bytes (body_bytes 4 (length (begin_upper b))) (begin_upper b) (drop-bytes (common b.lower b.upper) b.upper T.upper))))
      (inlined-bytes (leb (length (begin_prefix b)) 16))
    where
      pre : IsBytes (begin_prefix b)
      pre = take-bytes (common b.lower b.upper) b.lower T.lower

      inlined-bytes : (t : Bool) → IsBytes (pick t (begin_prefix b) [])
      inlined-bytes true = pre
      inlined-bytes false = λ k. omega arith
