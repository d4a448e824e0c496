-- A page that was begun is fit at every width, its listing is empty, and its effective space is what the forecast says. The one rule that
-- asks for thought is U5: an upper fence that is all prefix would be a prefix of the lower one, and so not above it. Assumes nothing.
use Rattle.std.proofs.Common.{◌≡◌, refl, sym, ap, ◌∙◌, Bool, true, false, inr, ⊎_elim, List, [], ◌++◌, ℕ, ◌+◌, ◌≤◌, ◌<◌, arith, eqb-true, leb-true, eq-eqb, ne_eqb, le-leb, leb, eqb, length, Ok, Err}
use native.Mathlib.Decide.{dec_le}
use borrow.Author.Tests.{lt-leb}
use Rattle.octets.specs.Bytes.{IsBytes}
use Rattle.keys.specs.Choice.{pick}
use Rattle.keys.specs.Keys.{head_of, common}
use Rattle.keys.proofs.Numbers.{by_number_below, below_same}
use Rattle.keys.proofs.Prefixes.{common-le, order_lengths}
use Rattle.paper.specs.Lists.{all, pairs, sum, less, rising}
use Rattle.paper.specs.Page.{body_bytes, Frame, frame_of, Numbers, numbers_of, hints_of, View, view_of}
use Rattle.paper.specs.Space.{fence_bytes, begin_bytes}
use Rattle.paper.specs.Hints.{in_use}
use Rattle.paper.specs.Verdicts.{Piece, fence_piece, prefix_piece, apart, faithful, upper_empty, u2, u3, u4, u5, u6, u7, u8, u9, fit_view, fit_of}
use Rattle.paper.specs.Listing.{listing}
use Rattle.paper.specs.Refusals.{judge}
use Rattle.paper.specs.Edits.{fence_slot, Begin, begin_prefix, begin_lower, begin_upper, prefix_start, lower_start, upper_start, inlined, begun}
use Rattle.paper.specs.Calls.{is_width, begin_checks, begin_of, begin_page, forecast_of, fit_verdict}
use Rattle.paper.specs.Views.{begin_frame, begin_view}
use Rattle.paper.proofs.Lists.{both_parts}
use Rattle.paper.proofs.Sorted.{less-order}
use Rattle.paper.proofs.Same.{Same, body_bytes_short, body_bytes_long}
use Rattle.paper.proofs.Fit.{Lie, Rules, Fit, fit_back, apart_sym, apart_low, apart_empty}
use Rattle.paper.proofs.Judging.{fit_passed}
use Rattle.paper.proofs.Holding.{Hold, judge_hold}
use Rattle.paper.proofs.Beginning.{Begins, Typed, length-beginPrefix, length-beginUpper, begin-lower, begin-upper, begin-bytes, begin-room, length-begun, begin-frame, begin_numbers, begin-hints, begin-kept, begin-footer, begin-square, begun-bytes}
use Rattle.std.specs.declared.cmp.Ordering.TheVariants.{Equal}

-- ---- the pieces of two fences
-- a long one stands where it was put
long_piece : (s : List ℕ) (o : ℕ) → 4 < length s → fence_piece (fence_slot s o) ≡ record { lo = o; hi = o + length s }
unfolding fence_piece fence_slot
long_piece s o h = rw (lt-leb (length s) 4 h, body_bytes_long 4 (length s) h)

-- and a short one is empty
short_piece : (s : List ℕ) (o : ℕ) → length s ≤ 4 → (fence_piece (fence_slot s o)).hi ≤ (fence_piece (fence_slot s o)).lo
unfolding fence_piece fence_slot
short_piece s o h = omega (arith, body_bytes_short 4 (length s) h)

-- a fence below a piece is apart from it
fence_below : (a : Piece) (s : List ℕ) (o : ℕ) → o + body_bytes 4 (length s) ≤ a.lo → apart a (fence_piece (fence_slot s o)) ≡ true
fence_below a s o h = go (dec_le (length s) 4)
  where
    go : Dec (length s ≤ 4) → apart a (fence_piece (fence_slot s o)) ≡ true
    go (yes d) = apart_empty a (fence_piece (fence_slot s o)) (short_piece s o d)
    go (no d) =
        let e = body_bytes_long 4 (length s) (omega arith) in
        rw (long_piece s o (omega arith)) (apart_sym a (record { lo = o; hi = o + length s }) ∙ apart_low a.lo (record { lo = o; hi = o + length s }) a (omega arith) (omega arith))

-- two fences, the second below the first
fences-apart : (s t : List ℕ) (o m : ℕ) → m + body_bytes 4 (length t) ≤ o → apart (fence_piece (fence_slot s o)) (fence_piece (fence_slot t m)) ≡ true
fences-apart s t o m h = go (dec_le (length s) 4)
  where
    go : Dec (length s ≤ 4) → apart (fence_piece (fence_slot s o)) (fence_piece (fence_slot t m)) ≡ true
    go (yes d) = apart_sym (fence_piece (fence_slot s o)) (fence_piece (fence_slot t m)) ∙ apart_empty (fence_piece (fence_slot t m)) (fence_piece (fence_slot s o)) (short_piece s o d)
    go (no d) = rw (long_piece s o (omega arith)) (fence_below (record { lo = o; hi = o + length s }) t m h)

-- a long fence lies from e on
long_lies : (s : List ℕ) (o e : ℕ) → e ≤ o → o + body_bytes 4 (length s) ≤ 16256 → 4 < length s → Lie e (fence_piece (fence_slot s o))
long_lies s o e h l k = rw (long_piece s o k) (h, omega (arith, body_bytes_long 4 (length s) k))

-- the flag is 0 or 1
flag-most : (t : Bool) → pick t 1 0 ≤ 1
flag-most true = omega arith
flag-most false = omega arith

-- no hints are in use on an empty page
none-used : (t : Bool) → in_use (pick t 1 0) 0 ≡ false
unfolding in_use
none-used true = refl
none-used false = refl

module _ (b : Begin) (B : Begins b) where
  -- an upper fence that is all prefix is empty
  upper-whole : (length b.upper ≡ 0 → ⊥) → length (begin_upper b) ≡ 0 → ⊥
  upper-whole ne e =
      let c = common-le b.lower b.upper in
      let l = length-beginUpper b in
      let o : less b.lower b.upper ≡ true = rw (ne_eqb (length b.upper) 0 ne) at B.order in
      ⊎_elim (λ (h : length b.lower < length b.upper). omega arith) (λ h. below_same (sym h.1))
      (by_number_below (length b.lower) (length b.upper) Equal (sym (order_lengths b.lower b.upper (inr (omega arith))) ∙ less-order b.lower b.upper o))

  -- so the fences keep U5
  fences-rise : pick (eqb (length (begin_upper b)) 0) (eqb (length (begin_prefix b)) 0) (less (begin_prefix b ++ begin_lower b) (begin_prefix b ++ begin_upper b)) ≡ true
  fences-rise = go (dec_le (length b.upper) 0)
    where
      go : Dec (length b.upper ≤ 0)
          → pick (eqb (length (begin_upper b)) 0) (eqb (length (begin_prefix b)) 0) (less (begin_prefix b ++ begin_lower b) (begin_prefix b ++ begin_upper b)) ≡ true
      go (yes d) =
          let c = common-le b.lower b.upper in
          let u = eq-eqb (length (begin_upper b)) 0 (omega (arith, length-beginUpper b)) in
          rw u (eq-eqb (length (begin_prefix b)) 0 (omega (arith, length-beginPrefix b)))
      go (no d) =
          let ne : length b.upper ≡ 0 → ⊥ = λ e. omega arith in
          let u = ne_eqb (length (begin_upper b)) 0 (upper-whole ne) in
          let o : less b.lower b.upper ≡ true = rw (ne_eqb (length b.upper) 0 ne) at B.order in
          rw (u, begin-lower b, begin-upper b) o

  -- ---- the rules
  -- what lies below the prefix is apart from it
  prefix-above : (s : List ℕ) (o : ℕ) → o + body_bytes 4 (length s) ≤ prefix_start b → apart (prefix_piece (length (begin_prefix b))) (fence_piece (fence_slot s o)) ≡ true
  unfolding prefix_piece
  prefix-above s o h = fence_below (prefix_piece (length (begin_prefix b))) s o h

  module _ (w : ℕ) (N : View) where
    abbrev M : View
    M = begin_view N b

    -- U1
    begin-rules : Rules M.frame M.numbers
    unfolding begin_view begin_frame fence_slot
    begin-rules =
        let r = begin-room b B in
        let l = long_lies (begin_lower b) (lower_start b) (upper_start b) (omega arith) (omega arith) in
        let u = long_lies (begin_upper b) (upper_start b) (upper_start b) (omega arith) (omega arith) in
        record {
          initialized = refl;
          flag = flag-most b.flag;
          start = omega arith;
          order = omega arith;
          top = omega arith;
          low = omega arith;
          high = omega (arith, B.room);
          prefix_most = prefix-most (dec_le (length (begin_prefix b)) 16);
          prefix = λ h. omega (arith, body_bytes_long 16 (length (begin_prefix b)) h);
          lower = l;
          upper = u;
        }
      where
        prefix-most : Dec (length (begin_prefix b) ≤ 16) → length (begin_prefix b) ≤ 16256
        prefix-most (yes h) = omega arith
        prefix-most (no h) = omega (arith, body_bytes_long 16 (length (begin_prefix b)) (omega arith), begin-room b B)

    -- U3
    pieces-apart : u3 w M ≡ true
    unfolding u3 begin_view begin_frame pairs all
    pieces-apart =
        let r = begin-room b B in
        let l = prefix-above (begin_lower b) (lower_start b) (omega arith) in
        let u = prefix-above (begin_upper b) (upper_start b) (omega arith) in
        let m = fences-apart (begin_lower b) (begin_upper b) (lower_start b) (upper_start b) (omega arith) in
        rw (l, u, m)

    -- U4
    heads-faithful : u4 M ≡ true
    unfolding u4 begin_view begin_frame faithful fence_slot all
    heads-faithful = rw (eq-eqb (head_of (begin_lower b)) (head_of (begin_lower b)) refl, eq-eqb (head_of (begin_upper b)) (head_of (begin_upper b)) refl)

    -- U5
    fences-hold : u5 M ≡ true
    unfolding u5 begin_view begin_frame upper_empty fence_slot
    fences-hold = fences-rise

    -- U8
    space_is : u8 w M ≡ true
    unfolding u8 begin_view begin_frame fence_slot sum
    space_is =
        eq-eqb (96 + begin_bytes b.lower b.upper) (96 + fence_bytes (length (begin_prefix b)) (length (begin_lower b)) (length (begin_upper b)) + 0)
        (omega (arith, begin-bytes b))

    -- U9
    hints-fresh : u9 M ≡ true
    unfolding u9 begin_view begin_frame
    hints-fresh = rw (none-used b.flag)

    -- all of them; U2, U6 and U7 ask nothing of an empty page
    pub begin-fits : Fit w (begin_view N b)
    begin-fits =
        record {
          r1 = begin-rules;
          r2 = unfold u2 begin_view all in refl;
          r3 = pieces-apart;
          r4 = heads-faithful;
          r5 = fences-hold;
          r6 = unfold u6 begin_view all in refl;
          r7 = unfold u7 begin_view rising in refl;
          r8 = space_is;
          r9 = hints-fresh;
        }

    -- begin leaves a page that is fit
    pub begin-fit : fit_view w (begin_view N b) ≡ 0
    begin-fit = fit_back w (begin_view N b) begin-fits

-- ---- the page
-- what the page q holds after begin
pub record BeginHeader (p : List ℕ) (b : Begin) (q : List ℕ) : Type 0 where
  pub frame : frame_of q ≡ begin_frame (frame_of p) b
  pub numbers : numbers_of q ≡ record { count = 0; start = 0; end = upper_start b; effective = 96 + begin_bytes b.lower b.upper }
  pub hints : hints_of q ≡ hints_of p
  -- "hints and all bytes not named keep their old content": inline bytes behind the prefix, hints, the body below the fences, the footer
  pub kept : Same q p (48 + length (inlined (begin_prefix b))) (96 + upper_start b)
  pub footer : Same q p 16352 16384

module _ (p : List ℕ) (b : Begin) (size : length p ≡ 16384) (B : Begins b) (T : Typed b) where
  -- no entries
  pub begun-listing : (w : ℕ) → listing w (begun p b) ≡ []
  unfolding listing begin_view
  begun-listing w = rw (begin-square p b size B T w)

  -- what begin was given, and the old bytes beside it
  pub begun-header : BeginHeader p b (begun p b)
  begun-header =
      record {
        frame = begin-frame p b size B T;
        numbers = begin_numbers p b size B T;
        hints = begin-hints p b size B;
        kept = begin-kept p b size B;
        footer = begin-footer p b size B;
      }

-- ---- the call
-- what the tests of begin say
pub begin_holds : (p : List ℕ) (b : Begin) → Hold (begin_checks p b) → (length p ≡ 16384) × Begins b
unfolding begin_checks all
begin_holds p b h =
    let x1 = both_parts (eqb (length p) 16384) _ h in
    let x2 = both_parts (leb (length b.lower) 65535) _ x1.1 in
    let x3 = both_parts (leb (length b.upper) 65535) _ x2.1 in
    let x4 = both_parts (pick (eqb (length b.upper) 0) true (less b.lower b.upper)) _ x3.1 in
    let x5 = both_parts (leb (begin_bytes b.lower b.upper) 16256) _ x4.1 in (
      eqb-true (length p) 16384 x1.0,
      record {
        lower_length = leb-true (length b.lower) 65535 x2.0;
        upper_length = leb-true (length b.upper) 65535 x3.0;
        order = x4.0;
        room = leb-true (begin_bytes b.lower b.upper) 16256 x5.0;
      },
    )

module _ (p : List ℕ) (b : Begin) (h : Hold (begin_checks p b)) where
  -- begin is done
  pub begin-done : begin_of p b ≡ Ok tt
  unfolding begin_of
  begin-done = judge_hold (begin_checks p b) (Ok tt) Err h

  -- and leaves the begun page
  pub begin-page : begin_page p b ≡ begun p b
  unfolding begin_page
  begin-page = judge_hold (begin_checks p b) (begun p b) (λ r. p) h

  module _ (T : Typed b) where
    abbrev size : length p ≡ 16384
    size = (begin_holds p b h).0

    abbrev B : Begins b
    B = (begin_holds p b h).1

    -- whose view is the begun view
    pub begin-view : (w : ℕ) → view_of w (begin_page p b) ≡ begin_view (view_of w p) b
    begin-view w = rw begin-page (begin-square p b size B T w)

    -- no rule is broken
    zeroed : (w : ℕ) → fit_of w (begin_page p b) ≡ 0
    unfolding fit_of
    zeroed w = rw (begin-view w) (begin-fit b B w (view_of w p))

    -- the page is fit at every width
    pub begin-verdict : (w : ℕ) → is_width w ≡ true → fit_verdict w (begin_page p b) ≡ Ok 0
    begin-verdict w e = fit_passed w (begin_page p b) (record { size = rw begin-page (length-begun p b size B); width = e; fit = zeroed w })

    -- its listing is empty
    pub begin-listing : (w : ℕ) → listing w (begin_page p b) ≡ []
    begin-listing w = rw begin-page (begun-listing p b size B T w)

    -- its header is what begin was given, and all other bytes are the old ones
    pub begin-header : BeginHeader p b (begin_page p b)
    begin-header = rw begin-page (begun-header p b size B T)

    -- and it holds bytes
    pub begin-page-bytes : IsBytes p → IsBytes (begin_page p b)
    begin-page-bytes e = rw begin-page (begun-bytes p b size B e T)

    -- and it is as the forecast says
    pub begin-forecast : forecast_of b.lower b.upper ≡ Ok (record { prefix_len = (frame_of (begin_page p b)).prefix_len; space = (numbers_of (begin_page p b)).effective })
    unfolding forecast_of judge
    begin-forecast =
        let x1 = le-leb (length b.lower) 65535 B.lower_length in
        let x2 = le-leb (length b.upper) 65535 B.upper_length in
        rw (x1, x2, begin-page, prefix-is, space_is)
      where
        prefix-is : (frame_of (begun p b)).prefix_len ≡ common b.lower b.upper
        prefix-is = unfold begin_frame in ap (λ (f : Frame). f.prefix_len) (begin-frame p b size B T) ∙ length-beginPrefix b

        space_is : (numbers_of (begun p b)).effective ≡ 96 + begin_bytes b.lower b.upper
        space_is = ap (λ (n : Numbers). n.effective) (begin_numbers p b size B T)
