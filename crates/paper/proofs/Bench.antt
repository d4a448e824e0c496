-- The bench page of document 01, computed whole: all zero, begun with empty fences, "parcel" and "a" filed. The listing program's text is the
-- paper's, byte for byte, and demand 3 is applied to it, so its premises are not empty. Assumes nothing.
use Rattle.std.proofs.Common.{◌≡◌, refl, true, false, List, [], ◌∷◌, ℕ, zero, suc, ◌≤◌, arith, ltb-true, ltb, replicate, get_or, Ok}
use mathlib.Core.List.Permᴰ
use Rattle.octets.specs.Bytes.{IsBytes, le, be, part, bytes, big_bytes, put}
use Rattle.keys.specs.Keys.{by_number, order, head_of, common, same_list}
use Rattle.paper.specs.Lists.{every, tab, ins, all, pairs, sum, up_to, less, differ, below_first, rising}
use Rattle.paper.specs.Page.{slot_of, prefix_of, suffix_of, body_bytes, row_of, frame_of, numbers_of, hints_of, view_of}
use Rattle.paper.specs.Space.{free, need, fence_bytes, begin_bytes}
use Rattle.paper.specs.Hints.{in_use, fresh, flat, refresh}
use Rattle.paper.specs.Verdicts.{payload, fence_piece, prefix_piece, within, apart, long_within, header_rules, upper_empty, inside, faithful, head_at, u2, u3, u4, u5, u6, u7, u8, u9, first_broken, fit_view, fit_of, empty_leaf, fences_rise, layout_view, layout_of}
use Rattle.paper.specs.Listing.{listing, keys, file_all}
use Rattle.paper.specs.Refusals.{judge}
use Rattle.paper.specs.Edits.{put_all, slot_bytes, number_fields, fence_slot, fences_placed, begin_fields, begun, slot_for, loaded, slot_in, slotted, more, numbered, inserted}
use Rattle.paper.specs.Searches.{passed}
use Rattle.paper.specs.Calls.{is_width, fits_width, has_prefix, begin_checks, begin_page, insert_checks, insert_page, need_of_all, fit_verdict}
use Rattle.paper.specs.Demand.{page_after}
use Rattle.paper.specs.Printed.{decimal_in, decimal, hex_digit, hex_bytes, hex_key, number_words, verdict_line, space_line, entry_line, entry_lines, page_text, printed}
use Rattle.paper.specs.Listing.{Entry}
use Rattle.paper.specs.Edits.{Begin}
use Rattle.paper.specs.Demand.{Given, Demanded}
use Rattle.paper.proofs.Lists.{both_parts}
use Rattle.paper.proofs.Demand.{demand3}

-- "begun at height 0, timestamp 0, empty fences, lower fence value 0, hints off"
abbrev fences : Begin
fences = record { height = 0; timestamp = 0; lower = []; lower_value = 0; upper = []; flag = false }

pub started : List ℕ
started = begin_page (replicate 16384 0) fences

-- ""a" with 1, "parcel" with 2, width 8"
abbrev a : Entry
a = record { key = 97 ∷ []; value = 1 }

abbrev parcel : Entry
parcel = record { key = 112 ∷ 97 ∷ 114 ∷ 99 ∷ 101 ∷ 108 ∷ []; value = 2 }

pub page : List ℕ
page = page_after 8 started (a ∷ parcel ∷ [])

-- verdict 1 0
-- space 16 16234 16218 134 0
-- 0 61 1
-- 1 70617263656c 2
pub text : List ℕ
text =
    118 ∷ 101 ∷ 114 ∷ 100 ∷ 105 ∷ 99 ∷ 116 ∷ 32 ∷ 49 ∷ 32 ∷ 48 ∷ 10
    ∷ 115 ∷ 112 ∷ 97 ∷ 99 ∷ 101 ∷ 32 ∷ 49 ∷ 54 ∷ 32 ∷ 49 ∷ 54 ∷ 50 ∷ 51 ∷ 52 ∷ 32 ∷ 49 ∷ 54 ∷ 50 ∷ 49 ∷ 56 ∷ 32 ∷ 49 ∷ 51 ∷ 52 ∷ 32 ∷ 48 ∷ 10
    ∷ 48 ∷ 32 ∷ 54 ∷ 49 ∷ 32 ∷ 49 ∷ 10
    ∷ 49 ∷ 32 ∷ 55 ∷ 48 ∷ 54 ∷ 49 ∷ 55 ∷ 50 ∷ 54 ∷ 51 ∷ 54 ∷ 53 ∷ 54 ∷ 99 ∷ 32 ∷ 50 ∷ 10
    ∷ []

-- what is computed: the text, and the premises of demand 3 for the two records
record Computed : Type 0 where
  printed_text : printed (8 ∷ page) ≡ text
  page_bytes : all (λ x. ltb x 256) started ≡ true
  fit : fit_verdict 8 started ≡ Ok 0
  different : pairs (λ (x y : Entry). differ x.key y.key) (a ∷ parcel ∷ []) ≡ true
  absent : all (λ (e : Entry). all (differ e.key) (keys (listing 8 started))) (a ∷ parcel ∷ []) ≡ true
  fenced : all (λ (e : Entry). inside (frame_of started) e.key) (a ∷ parcel ∷ []) ≡ true
  values : all (λ (e : Entry). fits_width 8 e.value) (a ∷ parcel ∷ []) ≡ true
  room : need_of_all 8 started (a ∷ parcel ∷ []) ≤ free (numbers_of started)

computed : Computed
unfolding page started le part bytes big_bytes put by_number order head_of common same_list every tab ins all pairs sum up_to less differ below_first rising slot_of prefix_of suffix_of body_bytes row_of frame_of numbers_of hints_of view_of need fence_bytes begin_bytes in_use fresh flat refresh payload fence_piece prefix_piece within apart long_within header_rules upper_empty inside faithful head_at u2 u3 u4 u5 u6 u7 u8 u9 first_broken fit_view fit_of empty_leaf fences_rise layout_view layout_of listing judge put_all slot_bytes number_fields fence_slot fences_placed begin_fields begun slot_for loaded slot_in slotted more numbered inserted passed is_width fits_width has_prefix begin_checks begin_page insert_checks insert_page need_of_all fit_verdict page_after decimal_in decimal hex_digit hex_bytes hex_key number_words verdict_line space_line entry_line entry_lines page_text printed text be
computed =
    record { printed_text = refl; page_bytes = refl; fit = refl; different = refl; absent = refl; fenced = refl; values = refl; room = omega arith }

pub bench_page : printed (8 ∷ page) ≡ text
bench_page = computed.printed_text

-- ---- demand 3 on that page
bytes_of : (l : List ℕ) → all (λ x. ltb x 256) l ≡ true → IsBytes l
unfolding all
bytes_of [] e i = omega arith
bytes_of (x ∷ l) e zero = ltb-true x 256 (both_parts (ltb x 256) (all (λ y. ltb y 256) l) e).0
bytes_of (x ∷ l) e (suc i) = bytes_of l (both_parts (ltb x 256) (all (λ y. ltb y 256) l) e).1 i

key-bytes : (i : ℕ) → IsBytes (get_or (a ∷ parcel ∷ []) i (record { key = []; value = 0 })).key
unfolding all
key-bytes zero = bytes_of a.key refl
key-bytes (suc zero) = bytes_of parcel.key refl
key-bytes (suc (suc i)) = λ k. omega arith

given : Given 8 started (a ∷ parcel ∷ [])
given =
    let C = computed in
    record {
      bytes = bytes_of started C.page_bytes;
      fit = C.fit;
      key_bytes = key-bytes;
      different = C.different;
      absent = C.absent;
      fenced = C.fenced;
      values = C.values;
      room = C.room;
    }

-- filed the other way round
pub demanded : Demanded 8 started (a ∷ parcel ∷ []) (parcel ∷ a ∷ []) (page_after 8 started (parcel ∷ a ∷ [])) (file_all (a ∷ parcel ∷ []) (listing 8 started))
demanded = demand3 8 started (a ∷ parcel ∷ []) (parcel ∷ a ∷ []) given (Permᴰ.swap refl refl)
