-- A list of fields written one after the other: what no field meets stays, and each field that no later one meets reads back. Both are
-- tests that compute, so a use says `refl`. Assumes nothing.
use Rattle.std.proofs.Common.{◌≡◌, refl, ◌∙◌, Bool, true, false, List, [], ◌∷◌, ℕ, zero, suc, ◌+◌, ◌^◌, ◌≤◌, ◌<◌, arith, le-leb, leb, length, get_or}
use Rattle.std.proofs.lemmas.Bool.{both_ways}
use native.Mathlib.Decide.{dec_le}
use borrow.Author.Tests.{lt-leb}
use Rattle.octets.specs.Bytes.{IsBytes, le, bytes, put}
use Rattle.octets.proofs.Put.{length-put, put_below, put-above, put-bytes}
use Rattle.octets.proofs.Little.{length-bytes, le-put_same, bytes-bytes}
use Rattle.keys.specs.Choice.{pick}
use Rattle.paper.specs.Edits.{Field, field, put_all}
use Rattle.paper.proofs.Same.{Same, same-le}

-- n bytes from o on meet no field
abbrev pub clear : ℕ → ℕ → List Field → Bool
clear o n [] = true
clear o n (f ∷ fs) = let r = clear o n fs in pick (leb (o + n) f.place) r (pick (leb (f.place + f.width) o) r false)

-- field i lies within size bytes, and no later one meets it
abbrev pub settled : ℕ → List Field → ℕ → Bool
settled size [] i = false
settled size (f ∷ fs) zero = pick (leb (f.place + f.width) size) (clear f.place f.width fs) false
settled size (f ∷ fs) (suc i) = settled size fs i

abbrev pub nth : List Field → ℕ → Field
nth fs i = get_or fs i (field 0 0 0)

pub length-put_all : (p : List ℕ) (fs : List Field) → length (put_all p fs) ≡ length p
unfolding put_all
length-put_all p [] = refl
length-put_all p (f ∷ fs) = length-put_all (put p f.place (bytes f.width f.value)) fs ∙ length-put p f.place (bytes f.width f.value)

pub put_all-bytes : (p : List ℕ) (fs : List Field) → IsBytes p → IsBytes (put_all p fs)
unfolding put_all
put_all-bytes p [] h = h
put_all-bytes p (f ∷ fs) h =
    put_all-bytes (put p f.place (bytes f.width f.value)) fs (put-bytes p f.place (bytes f.width f.value) h (bytes-bytes f.width f.value))

-- a list of fields leaves what it does not meet
pub same_clear : (p : List ℕ) (fs : List Field) (o n : ℕ) → clear o n fs ≡ true → Same (put_all p fs) p o (o + n)
unfolding put_all
same_clear p [] o n e j l m = refl
same_clear p (f ∷ fs) o n e j l m =
    go (λ x. same_clear (put p f.place (bytes f.width f.value)) fs o n x j l m) (dec_le (o + n) f.place) (dec_le (f.place + f.width) o)
  where
    run : List ℕ
    run = bytes f.width f.value

    q : List ℕ
    q = put p f.place run

    go : (clear o n fs ≡ true → get_or (put_all q fs) j 0 ≡ get_or q j 0) → Dec (o + n ≤ f.place) → Dec (f.place + f.width ≤ o) → get_or (put_all q fs) j 0 ≡ get_or p j 0
    go next (yes a) d = next (rw (le-leb (o + n) f.place a) at e) ∙ put_below p f.place run j (omega arith)
    go next (no a) (yes b) =
        next (rw (lt-leb (o + n) f.place (omega arith), le-leb (f.place + f.width) o b) at e)
        ∙ put-above p f.place run j (rw length-bytes (omega arith))
    go next (no a) (no b) =
        absurd (both_ways false refl (rw (lt-leb (o + n) f.place (omega arith), lt-leb (f.place + f.width) o (omega arith)) at e))

-- a field reads back
pub le-field : (fs : List Field) (i : ℕ) (p : List ℕ) (size : ℕ) → size ≤ length p → settled size fs i ≡ true
    → (nth fs i).value < 256 ^ (nth fs i).width → le (nth fs i).width (put_all p fs) (nth fs i).place ≡ (nth fs i).value
unfolding put_all
le-field [] i p size h k v = absurd (both_ways false refl k)
le-field (f ∷ fs) zero p size h k v = go (dec_le (f.place + f.width) size)
  where
    q : List ℕ
    q = put p f.place (bytes f.width f.value)

    go : Dec (f.place + f.width ≤ size) → le f.width (put_all q fs) f.place ≡ f.value
    go (yes a) =
        same-le (put_all q fs) q f.place (f.place + f.width) (same_clear q fs f.place f.width (rw (le-leb (f.place + f.width) size a) at k)) f.width f.place (omega arith) (omega arith)
        ∙ le-put_same f.width p f.place f.value (omega arith) v
    go (no a) = absurd (both_ways false refl (rw (lt-leb (f.place + f.width) size (omega arith)) at k))
le-field (f ∷ fs) (suc i) p size h k v =
    le-field fs i (put p f.place (bytes f.width f.value)) size (rw length-put h) k v
