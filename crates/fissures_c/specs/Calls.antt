-- What each call on a sheet's bytes leaves: its two numbers, then what it may write, in the order of its arguments (SHEETS 11.1, 11.2).
use Rattle.std.specs.Prelude.{List, ℕ, length}
use Rattle.sheet.specs.Lent.{and_then, or_short, after}
use Rattle.sheet.specs.Returned.{Returned, accepted, gives, refused}
use Rattle.sheet.specs.Listing.{listing}
use Rattle.sheet.specs.Scan.{verdict_of, commands_of}
use Rattle.sheet.specs.Ordered.{ordered_form}
use Rattle.sheet_reader.specs.Reading.{records_of}
use Rattle.rule.specs.RowBytes.{roll_bytes}
use Rattle.rule.specs.Selection.{roll_of}
use Rattle.cells.specs.CellsEntered.{cells_entered}
use Rattle.plain_run.specs.Rolled.{roll_returns}
use Rattle.grid_run.specs.GridRolled.{grid_returns}
use Rattle.cell_listing.specs.CellIds.{cell_ids}
use Rattle.cell_listing.specs.Listed.{id_bytes, list_returns, cell}
use Rattle.shapefile.specs.declared.Layer.{Layer}
use Rattle.shapefile.specs.declared.Part.{Part}
use Rattle.shape_files.specs.Exported.{file_returns}
use Rattle.shape_layers.specs.Layers.{layer_file}
use Rattle.c_answers.specs.Answers.{number, other, leaves}

-- reading a sheet and writing its ordered form (SHEETS 2.6)
abbrev pub order_returns : List ℕ → ℕ → Returned
order_returns s lent = let n = length (ordered_form (records_of s)) in and_then (verdict_of s) (or_short n lent n)

abbrev pub order_call : List ℕ → List ℕ → ℕ × ℕ × List ℕ
order_call s out = leaves (order_returns s (length out)) (ordered_form (records_of s)) out

-- reading a sheet and writing its roll by the plain run (SHEETS 5.9)
abbrev pub plain_call : List ℕ → List ℕ → ℕ × ℕ × List ℕ
plain_call s out = let S = listing (commands_of s) in leaves (roll_returns (verdict_of s) S (length out)) (roll_bytes (roll_of S)) out

-- the count of cells where rows are given, else the number that stood there
unfoldable pub count_after : Returned → ℕ → ℕ → ℕ
count_after accepted entered lent = lent
count_after (gives n) entered lent = entered
count_after (refused n p) entered lent = lent

-- reading a sheet and writing its roll by the grid of figure g: the roll, the two numbers and the count (SHEETS 6.9)
abbrev pub grid_call : List ℕ → ℕ → List ℕ → ℕ → ℕ × ℕ × ℕ × List ℕ
grid_call s g out cells =
    let S = listing (commands_of s) in
    let R = grid_returns (verdict_of s) S g (length out) in
    (number R, other R, count_after R (cells_entered S g) cells, after R (roll_bytes (roll_of S)) out)

-- reading a sheet and writing the ids of one cell (SHEETS 6.10)
abbrev pub cells_call : List ℕ → ℕ → ℕ → ℕ → List ℕ → ℕ × ℕ × List ℕ
cells_call s g column row out =
    let S = listing (commands_of s) in
    leaves (list_returns (verdict_of s) S g column row (length out)) (id_bytes (cell_ids S g (cell column row))) out

-- reading a sheet and writing a file of a layer of its roll (SHEETS 12.1)
abbrev pub export_call : Layer → Part → List ℕ → List ℕ → ℕ × ℕ × List ℕ
export_call layer part s out =
    let file = layer_file layer part (listing (commands_of s)) in
    leaves (file_returns (verdict_of s) file (length out)) file out
