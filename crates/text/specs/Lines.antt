-- The printed lines as lists of ASCII bytes (SHEETS 9.1 to 9.3): the head, a row's line, a refusal. Every line ends with a newline.
use Rattle.std.specs.Prelude.{List, [], ◌∷◌, ◌++◌, cond, ℕ, zero, suc, ◌+◌, ◌/◌, ◌%◌, ltb}
use Rattle.rule.specs.declared.Row.{Row}
use Rattle.rule.specs.RowBytes.{kind_of, partner_of}
use Rattle.rule.specs.Side.{side_number}

-- the decimal digits of v (SHEETS 9.3), which has at most f of them
unfoldable pub digits_within : ℕ → ℕ → List ℕ
digits_within zero v = []
digits_within (suc f) v = cond (ltb v 10) ((48 + v) ∷ []) (digits_within f (v / 10) ++ ((48 + v % 10) ∷ []))

-- the decimal digits of v (SHEETS 9.3), `0` for 0 and otherwise no 0 in front: v + 1 digits are always enough
unfoldable pub decimal : ℕ → List ℕ
decimal v = digits_within (suc v) v

-- a number and the byte behind it (SHEETS 9.1, 9.3): a blank (32), the time's stroke (47) or the newline (10)
unfoldable pub field : ℕ → ℕ → List ℕ
field v mark = decimal v ++ (mark ∷ [])

-- a row's line (SHEETS 9.1), as `1 1 2 10/1 12800 6400 1`
unfoldable pub line_of : Row → List ℕ
line_of r =
    field r.id 32 ++
    field (kind_of r.ending) 32 ++
    field (partner_of r.ending) 32 ++
    field r.at.num 47 ++
    field r.at.den 32 ++
    field r.x 32 ++
    field r.y 32 ++
    field (side_number r.side) 10

-- `tracks ` (SHEETS 9.1)
abbrev pub tracks_word : List ℕ
tracks_word = 116 ∷ 114 ∷ 97 ∷ 99 ∷ 107 ∷ 115 ∷ 32 ∷ []

-- `cells ` (SHEETS 9.1)
abbrev pub cells_word : List ℕ
cells_word = 99 ∷ 101 ∷ 108 ∷ 108 ∷ 115 ∷ 32 ∷ []

-- `refused ` (SHEETS 9.2)
abbrev pub refused_word : List ℕ
refused_word = 114 ∷ 101 ∷ 102 ∷ 117 ∷ 115 ∷ 101 ∷ 100 ∷ 32 ∷ []

-- the head line (SHEETS 9.1), as `tracks 2 cells 9`
unfoldable pub head_of : ℕ → ℕ → List ℕ
head_of tracks cells = tracks_word ++ field tracks 32 ++ cells_word ++ field cells 10

-- the line of a refusal (SHEETS 9.2), as `refused 11 9`
unfoldable pub refused_of : ℕ → ℕ → List ℕ
refused_of number place = refused_word ++ field number 32 ++ field place 10

-- `still running` and the newline (SHEETS 9.3, 9.4)
abbrev pub running_word : List ℕ
running_word = 115 ∷ 116 ∷ 105 ∷ 108 ∷ 108 ∷ 32 ∷ 114 ∷ 117 ∷ 110 ∷ 110 ∷ 105 ∷ 110 ∷ 103 ∷ 10 ∷ []

-- the number still running (SHEETS 9.4), as `1 still running`
unfoldable pub still_of : ℕ → List ℕ
still_of tracks = field tracks 32 ++ running_word

-- how many bytes a line has at most (`line_short` and its like in proofs/Lengths.antt): a row's, the head, a refusal's, that of the number still running
abbrev pub longest_line : ℕ
longest_line = 149

abbrev pub longest_head : ℕ
longest_head = 55

abbrev pub longest_refusal : ℕ
longest_refusal = 50

abbrev pub longest_still : ℕ
longest_still = 35
