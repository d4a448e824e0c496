-- Text written at a place of a buffer, and the lines of the listing from a header's numbers.
use Rattle.std.specs.Prelude.{ℕ, Bool, zero, suc, ◌+◌, ◌-◌, ◌≡◌, List, [], ◌∷◌, ◌++◌, length}
use Rattle.keys.specs.Choice.{pick}
use Rattle.octets.specs.Bytes.{le, put}
use Rattle.paper.specs.Page.{slot_of, prefix_of, suffix_of, value_at}
use Rattle.paper.specs.Printed.{number_words, entry_line}
use Rattle.paper.specs.declared.page.Slot.{Slot}
use Rattle.paper.specs.declared.page.Header.{Header}
use Rattle.listing.specs.declared.sink.Sink.{Sink}

-- b is a with the text put from at on, and r is the place after it
abbrev pub Wrote : List ℕ → ℕ → List ℕ → List ℕ → ℕ → Type 0
Wrote a at text b r = (b ≡ put a at text) × (r ≡ at + length text)

-- the word verdict and both verdicts' numbers
unfoldable pub verdict_text : Bool → ℕ → List ℕ
verdict_text layout fit = (118 ∷ 101 ∷ 114 ∷ 100 ∷ 105 ∷ 99 ∷ 116 ∷ []) ++ number_words (pick layout 1 0 ∷ fit ∷ [])

-- the word space and "start, end, free, effective, reclaimable" of a header
unfoldable pub space_text : Header → List ℕ
space_text h =
    (115 ∷ 112 ∷ 97 ∷ 99 ∷ 101 ∷ [])
    ++ number_words (h.start ∷ h.end ∷ (h.end - h.start) ∷ h.effective ∷ (16352 - (h.end - h.start) - h.effective) ∷ [])

-- the word sum, how many bytes there were, and both sums
unfoldable pub sum_text : Sink → List ℕ
sum_text s = (115 ∷ 117 ∷ 109 ∷ []) ++ number_words (s.len ∷ s.h1 ∷ s.h2 ∷ [])

-- the line of the entry of slot s, with number i, where the prefix has n bytes
unfoldable pub line_text : ℕ → List ℕ → ℕ → ℕ → Slot → List ℕ
line_text w p n i s = entry_line i (record { key = prefix_of p n ++ suffix_of p s; value = le w p (value_at s) })

-- the lines of k entries from entry i on
unfoldable pub lines_text : ℕ → List ℕ → ℕ → ℕ → ℕ → List ℕ
lines_text w p n i zero = []
lines_text w p n i (suc k) = line_text w p n i (slot_of p i) ++ lines_text w p n (suc i) k
