-- What the lines 4 to 6 and 8 to 10 of the table (SHEETS 3.1) say of one command, and of one with another before it.
use Rattle.std.specs.Prelude.{cond, List, [], ◌∷◌, ℕ, ltb, Option, Some, None}
use Rattle.sheet.specs.declared.Command.{Command}
use Rattle.sheet.specs.declared.RefusalKind.{RefusalKind}
use Rattle.sheet.specs.Returned.{number_of}
use Rattle.sheet.specs.Table.{no_line, off_sheet, wrong_speed, equal_ends, same_id, start_used, start_on_wall}

-- the number of what is broken, if anything is (SHEETS 3.1)
abbrev pub line_of : Option RefusalKind → ℕ
line_of None = no_line
line_of (Some k) = number_of k

-- 4, 5 or 6, the first that the command breaks by itself
unfoldable pub alone_of : Command → ℕ
alone_of c = cond (off_sheet c) 4 (cond (wrong_speed c) 5 (cond (equal_ends c) 6 no_line))

-- the first of 8 to 10 that c breaks with d before it
unfoldable pub clash_of : Command → Command → ℕ
clash_of c d = cond (same_id c d) 8 (cond (start_used c d) 9 (cond (start_on_wall c d) 10 no_line))

abbrev pub lesser : ℕ → ℕ → ℕ
lesser a b = cond (ltb b a) b a

-- the least clash with the commands before
unfoldable pub worst_of : Command → List Command → ℕ
worst_of c [] = no_line
worst_of c (d ∷ l) = lesser (clash_of c d) (worst_of c l)
