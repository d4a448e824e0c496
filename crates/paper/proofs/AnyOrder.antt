-- Records filed one after the other: each insert is accepted, what the next one needs still holds, and what the page then shows does not
-- depend on the order. Assumes nothing.
use Rattle.std.proofs.Common.{◌≡◌, refl, sym, ap, ◌∙◌, Bool, true, false, List, [], ◌∷◌, ◌++◌, ℕ, zero, suc, ◌+◌, ◌*◌, ◌-◌, ◌≤◌, arith, leb-false, leb, eqb, length, take, get_or}
use mathlib.Core.List.{Permᴰ}
use borrow.Author.Tests.{lt-leb}
use Rattle.octets.specs.Bytes.{IsBytes}
use Rattle.keys.specs.Choice.{both}
use Rattle.paper.specs.Lists.{ins, all, pairs, sum, differ}
use Rattle.paper.specs.Page.{frame_of, Numbers, numbers_of, hints_of, View, view_of}
use Rattle.paper.specs.Space.{payload_bytes, need, free}
use Rattle.paper.specs.Hints.{in_use}
use Rattle.paper.specs.Verdicts.{inside, keys_of}
use Rattle.paper.specs.Listing.{Entry, listing, keys, file_all}
use Rattle.paper.specs.Edits.{more}
use Rattle.paper.specs.Searches.{probe_suffix, scan}
use Rattle.paper.specs.Calls.{is_width, fits_width, need_of_all, insert_page}
use Rattle.paper.specs.Views.{refreshed, insert_view}
use Rattle.paper.specs.Demand.{page_after, is_accepted, all_accepted}
use Rattle.paper.proofs.Lists.{both_parts, both_yes, all-ins, map-ins}
use Rattle.paper.proofs.Sorted.{spot, file_ins, differ_sym}
use Rattle.paper.proofs.Fit.{Fit}
use Rattle.paper.proofs.Filing.{Takes, insert-accepted, view-after, size-after, bytes_after, fit-after, listing-after}
use Rattle.paper.proofs.Perms.{all-perm, sum-perm, length-perm, pairs-perm, file_all_perm}
use Rattle.paper.proofs.HeaderBytes.{header-bytes, hints-listing}

-- what records ask of a page, as facts
pub record Files (w : ℕ) (p : List ℕ) (es : List Entry) : Type 0 where
  pub size : length p ≡ 16384
  pub bytes : IsBytes p
  pub width : is_width w ≡ true
  pub fit : Fit w (view_of w p)
  pub key_bytes : (i : ℕ) → IsBytes (get_or es i (record { key = []; value = 0 })).key
  pub different : pairs (λ a b. differ a.key b.key) es ≡ true
  pub absent : all (λ e. all (differ e.key) (keys (listing w p))) es ≡ true
  pub fenced : all (λ e. inside (frame_of p) e.key) es ≡ true
  pub values : all (λ e. fits_width w e.value) es ≡ true
  pub room : need_of_all w p es ≤ free (numbers_of p)

all_two : {A : Type 0} (f g h : A → Bool) (l : List A) → ((x : A) → f x ≡ true → g x ≡ true → h x ≡ true) → all f l ≡ true → all g l ≡ true
    → all h l ≡ true
unfolding all
all_two f g h [] k a b = refl
all_two f g h (x ∷ l) k a b =
    let c = both_parts (f x) (all f l) a in
    let d = both_parts (g x) (all g l) b in
    both_yes (h x) (all h l) (k x c.0 d.0) (all_two f g h l k c.1 d.1)

-- ---- the first record
takes : (w : ℕ) (p : List ℕ) (e : Entry) (es : List Entry) → Files w p (e ∷ es) → Takes w p e
unfolding all sum need_of_all
takes w p e es G =
    record {
      size = G.size;
      bytes = G.bytes;
      width = G.width;
      fit = G.fit;
      key_bytes = G.key_bytes 0;
      value = (both_parts (fits_width w e.value) (all (λ x. fits_width w x.value) es) G.values).0;
      fenced = (both_parts (inside (frame_of p) e.key) (all (λ x. inside (frame_of p) x.key) es) G.fenced).0;
      absent = (both_parts (all (differ e.key) (keys (listing w p))) (all (λ x. all (differ x.key) (keys (listing w p))) es) G.absent).0;
      room = omega (arith, G.room);
    }

module _ (w : ℕ) (p : List ℕ) (e : Entry) (T : Takes w p e) where
  abbrev q : List ℕ
  q = insert_page w p e.key e.value

  abbrev s : List ℕ
  s = probe_suffix (frame_of p) e.key

  abbrev i : ℕ
  i = spot ((frame_of p).prefix ++ s) (keys_of (view_of w p))

  frame-after : frame_of q ≡ frame_of p
  unfolding view_of insert_view refreshed
  frame-after = ap (λ (N : View). N.frame) (view-after w p e T)

  numbers_after : numbers_of q ≡ more w (numbers_of p) (length s)
  unfolding view_of insert_view refreshed
  numbers_after = ap (λ (N : View). N.numbers) (view-after w p e T)

  hints-view : hints_of q ≡ (insert_view w (view_of w p) i s e.value).hints
  unfolding view_of
  hints-view = ap (λ (N : View). N.hints) (view-after w p e T)

  hints-after : in_use (frame_of p).flag ((numbers_of p).count + 1) ≡ false → hints_of q ≡ hints_of p
  hints-after h = hints-view ∙ old
    where
      old : (insert_view w (view_of w p) i s e.value).hints ≡ hints_of p
      old = unfold insert_view refreshed view_of more in rw h

  keys-after : keys (listing w q) ≡ ins (scan false e.key (listing w p)) e.key (keys (listing w p))
  keys-after = rw (listing-after w p e T, file_ins e (listing w p)) (map-ins (λ (x : Entry). x.key) (scan false e.key (listing w p)) e (listing w p))

  room_next : (k : ℕ) → need w (length s) + k ≤ free (numbers_of p) → k ≤ free (more w (numbers_of p) (length s))
  unfolding need more
  room_next k h = omega arith

  files-next : (es : List Entry) → Files w p (e ∷ es) → Files w q es
  unfolding all sum pairs need_of_all
  files-next es G =
      record {
        size = size-after w p e T;
        bytes = bytes_after w p e T;
        width = G.width;
        fit = fit-after w p e T;
        key_bytes = λ i. G.key_bytes (suc i);
        different = (both_parts (all (λ x. differ e.key x.key) es) (pairs (λ a b. differ a.key b.key) es) G.different).1;
        absent = all_two (λ x. all (differ x.key) (keys (listing w p))) (λ x. differ e.key x.key) (λ x. all (differ x.key) (keys (listing w q))) es
            (λ x a b. rw (keys-after, all-ins (differ x.key) (scan false e.key (listing w p)) e.key (keys (listing w p)))
            (both_yes (differ x.key e.key) (all (differ x.key) (keys (listing w p))) (differ_sym x.key e.key ∙ b) a))
            (both_parts (all (differ e.key) (keys (listing w p))) (all (λ x. all (differ x.key) (keys (listing w p))) es) G.absent).1
            (both_parts (all (λ x. differ e.key x.key) es) (pairs (λ a b. differ a.key b.key) es) G.different).0;
        fenced = rw frame-after (both_parts (inside (frame_of p) e.key) (all (λ x. inside (frame_of p) x.key) es) G.fenced).1;
        values = (both_parts (fits_width w e.value) (all (λ x. fits_width w x.value) es) G.values).1;
        room = rw (frame-after, numbers_after) (room_next (sum (λ x. need w (length (probe_suffix (frame_of p) x.key))) es) G.room);
      }

-- ---- all of them: what page q shows after es were filed on p
pub record Filed (w : ℕ) (p : List ℕ) (es : List Entry) (q : List ℕ) : Type 0 where
  pub size : length q ≡ 16384
  pub bytes : IsBytes q
  pub fit : Fit w (view_of w q)
  pub listing : listing w q ≡ file_all es (listing w p)
  pub frame : frame_of q ≡ frame_of p
  pub count : (numbers_of q).count ≡ (numbers_of p).count + length es
  pub start : (numbers_of q).start ≡ (numbers_of p).start + 8 * length es
  pub end : (numbers_of q).end + need_of_all w p es ≡ (numbers_of p).end + 8 * length es
  pub effective : (numbers_of q).effective ≡ (numbers_of p).effective + need_of_all w p es
  pub hints : in_use (frame_of p).flag (numbers_of q).count ≡ false → hints_of q ≡ hints_of p

pub not-used : (flag m n : ℕ) → m ≤ n → in_use flag n ≡ false → in_use flag m ≡ false
unfolding in_use
not-used flag m n h = go (eqb flag 1)
  where
    go : (b : Bool) → both b (leb 64 n) ≡ false → both b (leb 64 m) ≡ false
    go true e = lt-leb 64 m (omega (arith, leb-false 64 n e))
    go false e = refl

filed_step : (w : ℕ) (p : List ℕ) (e : Entry) (es : List Entry) → Takes w p e → (q : List ℕ) → Filed w (insert_page w p e.key e.value) es q → Filed w p (e ∷ es) q
unfolding more need file_all sum need_of_all
filed_step w p e es T q F =
    let o : List ℕ = insert_page w p e.key e.value in
    let k : List ℕ = probe_suffix (frame_of p) e.key in
    let f : frame_of o ≡ frame_of p = frame-after w p e T in
    let n : numbers_of o ≡ more w (numbers_of p) (length k) = numbers_after w p e T in
    let c : (numbers_of o).count ≡ (numbers_of p).count + 1 = ap (λ (m : Numbers). m.count) n in
    let t : (numbers_of o).start ≡ (numbers_of p).start + 8 = ap (λ (m : Numbers). m.start) n in
    let d : (numbers_of o).end ≡ (numbers_of p).end - payload_bytes w (length k) = ap (λ (m : Numbers). m.end) n in
    let x : (numbers_of o).effective ≡ (numbers_of p).effective + need w (length k) = ap (λ (m : Numbers). m.effective) n in
    let r : need w (length k) ≤ free (numbers_of p) = T.room in
    let rest : ℕ = sum (λ (y : Entry). need w (length (probe_suffix (frame_of p) y.key))) es in
    let fe : (numbers_of q).end + rest ≡ (numbers_of o).end + 8 * length es = rw f at F.end in
    let fx : (numbers_of q).effective ≡ (numbers_of o).effective + rest = rw f at F.effective in
    let fc = F.count in
    let fs = F.start in
    record {
      size = F.size;
      bytes = F.bytes;
      fit = F.fit;
      listing = F.listing ∙ rw (listing-after w p e T);
      frame = F.frame ∙ f;
      count = omega arith;
      start = omega arith;
      end = omega arith;
      effective = omega arith;
      hints = λ h. F.hints (rw f h) ∙ hints-after w p e T (not-used (frame_of p).flag ((numbers_of p).count + 1) (numbers_of q).count (omega arith) h);
    }

pub filed : (w : ℕ) (es : List Entry) (p : List ℕ) → Files w p es → (all_accepted w p es ≡ true) × Filed w p es (page_after w p es)
unfolding all_accepted is_accepted page_after file_all sum need_of_all
filed w [] p G = (
  refl,
  record {
    size = G.size;
    bytes = G.bytes;
    fit = G.fit;
    listing = refl;
    frame = refl;
    count = omega arith;
    start = omega arith;
    end = omega arith;
    effective = omega arith;
    hints = λ h. refl;
  },
)
filed w (e ∷ es) p G =
    let T = takes w p e es G in
    let next = filed w es (insert_page w p e.key e.value) (files-next w p e T es G) in
    (rw (insert-accepted w p e T) next.0, filed_step w p e es T (page_after w (insert_page w p e.key e.value) es) next.1)

-- ---- another order
-- each key of a list of bytes is, wherever it stands
keys_perm : {l m : List Entry} → Permᴰ l m → ((i : ℕ) → IsBytes (get_or l i (record { key = []; value = 0 })).key)
    → (i : ℕ) → IsBytes (get_or m i (record { key = []; value = 0 })).key
keys_perm Permᴰ.nil h i = h i
keys_perm (Permᴰ.cons e d) h zero = rw (← e) (h 0)
keys_perm (Permᴰ.cons e d) h (suc i) = keys_perm d (λ j. h (suc j)) i
keys_perm (Permᴰ.swap e g) h zero = rw (← g) (h 1)
keys_perm (Permᴰ.swap e g) h (suc zero) = rw (← e) (h 0)
keys_perm (Permᴰ.swap e g) h (suc (suc i)) = h (suc (suc i))
keys_perm (Permᴰ.trans d g) h i = keys_perm g (keys_perm d h) i

pub files_perm : (w : ℕ) (p : List ℕ) (es fs : List Entry) → Permᴰ es fs → Files w p es → Files w p fs
unfolding need_of_all
files_perm w p es fs d G =
    record {
      size = G.size;
      bytes = G.bytes;
      width = G.width;
      fit = G.fit;
      key_bytes = keys_perm d G.key_bytes;
      different = sym (pairs-perm (λ a b. differ a.key b.key) (λ a b. differ_sym a.key b.key) d) ∙ G.different;
      absent = sym (all-perm (λ e. all (differ e.key) (keys (listing w p))) d) ∙ G.absent;
      fenced = sym (all-perm (λ e. inside (frame_of p) e.key) d) ∙ G.fenced;
      values = sym (all-perm (λ e. fits_width w e.value) d) ∙ G.values;
      room = rw (← sum-perm (λ e. need w (length (probe_suffix (frame_of p) e.key))) d) G.room;
    }

-- two pages filed from one are alike where the records are
module _ (w : ℕ) (p q r : List ℕ) (es fs : List Entry) (d : Permᴰ es fs) (G : Files w p es) (Q : Filed w p es q) (R : Filed w p fs r) where
  pub listing-alike : listing w r ≡ file_all es (listing w p)
  listing-alike = R.listing ∙ sym (file_all_perm d G.different (listing w p))

  both-listings : listing w q ≡ listing w r
  both-listings = Q.listing ∙ sym listing-alike

  numbers-alike : numbers_of q ≡ numbers_of r
  unfolding need_of_all
  numbers-alike =
      let l = length-perm d in
      let m = sum-perm (λ (e : Entry). need w (length (probe_suffix (frame_of p) e.key))) d in
      let c : (numbers_of q).count ≡ (numbers_of r).count = omega (arith, Q.count, R.count) in
      let s : (numbers_of q).start ≡ (numbers_of r).start = omega (arith, Q.start, R.start) in
      let e : (numbers_of q).end ≡ (numbers_of r).end = omega (arith, Q.end, R.end) in
      let x : (numbers_of q).effective ≡ (numbers_of r).effective = omega (arith, Q.effective, R.effective) in
      λ k. record { count = c k; start = s k; end = e k; effective = x k }

  frames-alike : frame_of q ≡ frame_of r
  frames-alike = Q.frame ∙ sym R.frame

  count-alike : (numbers_of q).count ≡ (numbers_of r).count
  count-alike = ap (λ (m : Numbers). m.count) numbers-alike

  hints-alike : (b : Bool) → in_use (frame_of p).flag (numbers_of q).count ≡ b → hints_of q ≡ hints_of r
  hints-alike true h =
      hints-listing w q Q.fit (rw Q.frame h)
      ∙ rw (frames-alike, both-listings, count-alike) (sym (hints-listing w r R.fit (rw (R.frame, ← count-alike) h)))
  hints-alike false h = Q.hints h ∙ sym (R.hints (rw (← count-alike) h))

  pub header-alike : take 96 r ≡ take 96 q
  header-alike =
      sym (header-bytes q r Q.bytes R.bytes (Q.size ∙ sym R.size) frames-alike numbers-alike (hints-alike (in_use (frame_of p).flag (numbers_of q).count) refl))
