-- The bench samples marked P, proved of the definitions together: one table, one claim. A test that computes over the table says that every
-- row is right, and one law turns it into each row. Assumes nothing.
use Rattle.std.proofs.Common.{◌≡◌, refl, List, [], ◌∷◌, ℕ, ◌<◌, eqb-true, eqb, length, get_or}
use Rattle.octets.specs.Bytes.{be}
use Rattle.keys.specs.Keys.{by_number, order, head_of, common}
use Rattle.paper.specs.Lists.{all}
use Rattle.paper.specs.Page.{body_bytes}
use Rattle.paper.specs.Space.{need}
use Rattle.paper.proofs.Lists.{all-at}
use Rattle.std.specs.declared.cmp.Ordering.{Ordering}
use Rattle.std.specs.declared.cmp.Ordering.TheVariants.{Less, Equal, Greater}

pub record Sample : Type 0 where
  pub got : ℕ
  pub want : ℕ

abbrev sample : ℕ → ℕ → Sample
sample g w = record { got = g; want = w }

-- an order as a number: 0 for "before"
abbrev rank : Ordering → ℕ
rank Less = 0
rank Equal = 1
rank Greater = 2

-- "a", "a\0", "abcd", "abcde", "abcdf", "parcel", "hub/A", "hub/B"
abbrev a : List ℕ
a = 97 ∷ []

abbrev a0 : List ℕ
a0 = 97 ∷ 0 ∷ []

abbrev abcd : List ℕ
abcd = 97 ∷ 98 ∷ 99 ∷ 100 ∷ []

abbrev abcde : List ℕ
abcde = 97 ∷ 98 ∷ 99 ∷ 100 ∷ 101 ∷ []

abbrev abcdf : List ℕ
abcdf = 97 ∷ 98 ∷ 99 ∷ 100 ∷ 102 ∷ []

abbrev parcel : List ℕ
parcel = 112 ∷ 97 ∷ 114 ∷ 99 ∷ 101 ∷ 108 ∷ []

abbrev hub_a : List ℕ
hub_a = 104 ∷ 117 ∷ 98 ∷ 47 ∷ 65 ∷ []

abbrev hub_b : List ℕ
hub_b = 104 ∷ 117 ∷ 98 ∷ 47 ∷ 66 ∷ []

pub samples : List Sample
samples =
    -- heads: "" 0; "a" and "a\0" both 0x61000000; "parcel" 0x70617263
    sample (head_of []) 0
    ∷ sample (head_of a) 0x61000000
    ∷ sample (head_of a0) 0x61000000
    ∷ sample (head_of parcel) 0x70617263
    -- order: "a" before "a\0"; "abcd" before "abcde"; "abcde" before "abcdf"
    ∷ sample (rank (order a a0)) 0
    ∷ sample (rank (order abcd abcde)) 0
    ∷ sample (rank (order abcde abcdf)) 0
    -- common prefix of "hub/A", "hub/B": 4; of "", "": 0
    ∷ sample (common hub_a hub_b) 4
    ∷ sample (common [] []) 0
    -- need at width 8: suffix 4 gives 16, suffix 5 gives 21. At width 0, suffix 0 gives 8
    ∷ sample (need 8 4) 16
    ∷ sample (need 8 5) 21
    ∷ sample (need 0 0) 8
    ∷ []

-- every row of the table is right
pub all_right : (i : ℕ) → i < length samples → (get_or samples i (sample 0 0)).got ≡ (get_or samples i (sample 0 0)).want
unfolding samples head_of be order by_number common need body_bytes all
all_right i h =
    eqb-true (get_or samples i (sample 0 0)).got (get_or samples i (sample 0 0)).want (all-at (λ s. eqb s.got s.want) samples refl i (sample 0 0) h)
