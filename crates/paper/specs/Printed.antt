-- The text that the listing program prints, as a list of bytes.
use Rattle.std.specs.Prelude.{ℕ, zero, suc, ◌+◌, ◌-◌, ◌/◌, ◌%◌, List, [], ◌∷◌, ◌++◌, ltb, eqb, length}
use Rattle.keys.specs.Choice.{pick}
use Rattle.paper.specs.Page.{numbers_of}
use Rattle.paper.specs.Space.{free, used}
use Rattle.paper.specs.Verdicts.{fit_of, layout_of}
use Rattle.paper.specs.Listing.{Entry, listing}
use Rattle.paper.specs.Calls.{is_width}

-- ---- characters: 10 ends a line, 32 is a blank, 45 is "-"
-- a number in decimal, of at most k digits more than one
unfoldable pub decimal_in : ℕ → ℕ → List ℕ
decimal_in zero n = (48 + n) ∷ []
decimal_in (suc k) n = pick (ltb n 10) ((48 + n) ∷ []) (decimal_in k (n / 10) ++ ((48 + n % 10) ∷ []))

-- a number below 2^64 has at most twenty
unfoldable pub decimal : ℕ → List ℕ
decimal n = decimal_in 19 n

unfoldable pub hex_digit : ℕ → ℕ
hex_digit d = pick (ltb d 10) (48 + d) (87 + d)

-- two digits a byte
unfoldable pub hex_bytes : List ℕ → List ℕ
hex_bytes [] = []
hex_bytes (b ∷ bs) = hex_digit (b / 16) ∷ hex_digit (b % 16) ∷ hex_bytes bs

-- "key in hex ("-" if empty)"
unfoldable pub hex_key : List ℕ → List ℕ
hex_key [] = 45 ∷ []
hex_key (b ∷ bs) = hex_bytes (b ∷ bs)

-- a word and numbers, with a blank before each, and the line's end
unfoldable pub number_words : List ℕ → List ℕ
number_words [] = 10 ∷ []
number_words (n ∷ ns) = (32 ∷ decimal n) ++ number_words ns

-- ---- lines
-- "line 1: layout (1 yes), fit": verdict
unfoldable pub verdict_line : ℕ → List ℕ → List ℕ
verdict_line w p = (118 ∷ 101 ∷ 114 ∷ 100 ∷ 105 ∷ 99 ∷ 116 ∷ []) ++ number_words (pick (layout_of w p) 1 0 ∷ fit_of w p ∷ [])

-- "line 2: start, end, free, effective, reclaimable": space
unfoldable pub space_line : List ℕ → List ℕ
space_line p =
    let n = numbers_of p in
    (115 ∷ 112 ∷ 97 ∷ 99 ∷ 101 ∷ []) ++ number_words (n.start ∷ n.end ∷ free n ∷ n.effective ∷ (used n - n.effective) ∷ [])

-- "then, per entry, slot, key in hex ("-" if empty), value (0 at width 0)"
unfoldable pub entry_line : ℕ → Entry → List ℕ
entry_line i e = decimal i ++ (32 ∷ hex_key e.key) ++ (32 ∷ decimal e.value) ++ (10 ∷ [])

unfoldable pub entry_lines : ℕ → List Entry → List ℕ
entry_lines i [] = []
entry_lines i (e ∷ es) = entry_line i e ++ entry_lines (suc i) es

-- "nothing follows if fit is not 0"
unfoldable pub page_text : ℕ → List ℕ → List ℕ
page_text w p = verdict_line w p ++ pick (eqb (fit_of w p) 0) (space_line p ++ entry_lines 0 (listing w p)) []

-- refused n
unfoldable pub refused_line : ℕ → List ℕ
refused_line n = (114 ∷ 101 ∷ 102 ∷ 117 ∷ 115 ∷ 101 ∷ 100 ∷ []) ++ number_words (n ∷ [])

-- "the listing program reads a width byte and a page on standard input .. input of another length prints `refused 1`, a bad width
-- `refused 2`"
unfoldable pub printed : List ℕ → List ℕ
printed [] = refused_line 1
printed (w ∷ p) = pick (eqb (length p) 16384) (pick (is_width w) (page_text w p) (refused_line 2)) (refused_line 1)
