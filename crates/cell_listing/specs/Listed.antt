-- What a call of the cell listing returns, and what the caller's buffer then holds (SHEETS 3.8 to 3.10, 6.10).
use Rattle.std.specs.Prelude.{◌≡◌, cond, ◌&&◌, List, [], ◌∷◌, ◌++◌, ℕ, ◌*◌, ltb, length, Result}
use Rattle.byte_order.specs.Bytes.{le_bytes}
use Rattle.sheet.specs.Lent.{and_then, or_short, after}
use Rattle.sheet.specs.Listing.{Listing}
use Rattle.sheet.specs.Returned.{Returned, accepted, refused}
use Rattle.cells.specs.declared.Cell.{Cell}
use Rattle.cells.specs.Grid.{figure_check}
use Rattle.sheet.specs.declared.Refusal.{Refusal}
use Rattle.sheet.specs.Answer.{answered}
use Rattle.cell_listing.specs.CellIds.{cell_ids}

-- how many bytes an id has (SHEETS 6.10)
abbrev pub id_width : ℕ
id_width = 2

-- ids in bytes (SHEETS 6.10)
unfoldable pub id_bytes : List ℕ → List ℕ
id_bytes [] = []
id_bytes (i ∷ l) = le_bytes id_width i ++ id_bytes l

-- how many bytes the longest listing has, that of 256 tracks
abbrev pub longest_listing : ℕ
longest_listing = 256 * id_width

-- 13, then 14 where the cell is not of the grid (SHEETS 3.1, 3.8)
unfoldable pub cell_check : ℕ → ℕ → ℕ → Returned
cell_check g column row = and_then (figure_check g) (cond (ltb column g && ltb row g) accepted (refused 14 0))

-- a cell by its column and row (SHEETS 6.2)
abbrev pub cell : ℕ → ℕ → Cell
cell column row = record { column = column; row = row }

-- 12 after what is said of the arguments (SHEETS 3.8); else the number of ids
abbrev pub list_returns : Returned → Listing → ℕ → ℕ → ℕ → ℕ → Returned
list_returns v S g column row lent =
    let n = length (cell_ids S g (cell column row)) in
    and_then (and_then v (cell_check g column row)) (or_short (id_width * n) lent n)

-- the answer and the buffer's contents at exit (SHEETS 6.10), for a sheet with a verdict and its records
pub record Lists (v : Returned) (S : Listing) (g column row : ℕ) (before exit : List ℕ) (r : Result ℕ Refusal) : Type 0 where
  pub answer : answered r ≡ list_returns v S g column row (length before)
  pub buffer : exit ≡ after (list_returns v S g column row (length before)) (id_bytes (cell_ids S g (cell column row))) before
