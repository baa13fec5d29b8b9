-- The lines of rows, one behind the other (SHEETS 9.1, 9.4).
use Rattle.std.specs.Prelude.{List, [], ◌∷◌, ◌++◌, ℕ}
use Rattle.rule.specs.declared.Row.{Row}
use Rattle.text.specs.Lines.{line_of}

unfoldable pub lines_of : List Row → List ℕ
lines_of [] = []
lines_of (r ∷ l) = line_of r ++ lines_of l
