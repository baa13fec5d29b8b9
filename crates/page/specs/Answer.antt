-- What is printed for a sheet, as `roll` does (SHEETS 9.1, 9.2).
use Rattle.std.specs.Prelude.{List, [], ◌++◌, ℕ, length}
use Rattle.sheet.specs.Listing.{Listing}
use Rattle.sheet.specs.Returned.{Returned, accepted, gives, refused}
use Rattle.rule.specs.Selection.{roll_of}
use Rattle.cells.specs.CellsEntered.{cells_entered}
use Rattle.text.specs.Lines.{head_of, refused_of}
use Rattle.page.specs.Rows.{lines_of}

-- a buffer of so many bytes has room for every answer
abbrev pub answer_room : ℕ
answer_room = 40960

-- for a sheet with a verdict and its records: the head line with the cells entered at the figure 8, then the rows' lines (SHEETS 9.1); or the line of the refusal (SHEETS 9.2)
unfoldable pub answer_of : Returned → Listing → List ℕ
answer_of accepted S = head_of (length S.tracks) (cells_entered S 8) ++ lines_of (roll_of S)
answer_of (gives n) S = []
answer_of (refused n p) S = refused_of n p
