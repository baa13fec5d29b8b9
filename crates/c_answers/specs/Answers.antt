-- Answers as numbers, for callers in other languages (SHEETS 11.1, 11.2).
use Rattle.std.specs.Prelude.{List, ℕ, Result, Ok, Err}
use Rattle.sheet.specs.Lent.{after}
use Rattle.sheet.specs.Returned.{Returned, accepted, gives, refused}
use Rattle.c_answers.specs.declared.Numbers.{Numbers}

-- the answer of a call whose refusals are numbers alone, in the numbers of SHEETS 3.1
abbrev pub answered_in_numbers : Result ℕ Numbers → Returned
answered_in_numbers (Ok n) = gives n
answered_in_numbers (Err r) = refused r.number r.place

-- the table's number, 0 where nothing is refused
abbrev pub number : Returned → ℕ
number accepted = 0
number (gives n) = 0
number (refused n p) = n

-- the other number: the place, length or figure of a refusal, or what the call gives
abbrev pub other : Returned → ℕ
other accepted = 0
other (gives n) = n
other (refused n p) = p

-- the two numbers of an answer
abbrev pub told : Returned → ℕ × ℕ
told R = (number R, other R)

-- with what a lent slice then holds: the numbers given for it in front, or all of it as it came
abbrev pub leaves : Returned → List ℕ → List ℕ → ℕ × ℕ × List ℕ
leaves R written lent = (number R, other R, after R written lent)
