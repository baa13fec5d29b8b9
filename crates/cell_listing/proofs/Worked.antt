-- A worked case: sheet cell (examples/), g = 8. Tip 7 enters cell (1, 1) first; tips 3 and 4 enter it at time 8, over the border that it does not have and over the one that it has, and stand by id; then tip 1. Tip 7 starts on the border of (1, 1) and (2, 1) and enters both at 0; where it opens at 20, it enters both then.
use mathlib.Core.Path.{◌≡◌, refl}
use mathlib.Core.List.{[], ◌∷◌}
use lib.IntN.{pos, negsuc}
use Rattle.sheet.specs.declared.Track.{Track}
use Rattle.sheet.specs.declared.Wall.{Wall}
use Rattle.sheet.specs.Listing.{Listing}
use Rattle.sheet.specs.Ordered.{insert_by, insert_all}
use Rattle.rule.specs.Rows.{time_of}
use Rattle.rule.specs.Selection.{roll_of}
use Rattle.cells.specs.Grid.{side}
use Rattle.cells.specs.Cut.{before, later, sooner, plusᶜ, past}
use Rattle.cells.specs.OneCell.{border, enter, leave, entryᵃ, exitᵃ, entry, entry_time, exit, has_point}
use Rattle.cells.specs.Passing.{passing}
use Rattle.cell_listing.specs.CellIds.{ahead, cell_tracks, cell_ids}
use Rattle.cell_listing.specs.Listed.{cell}

abbrev four : Track
four = record { id = 4; x = 384; y = 768; vx = pos 16; vy = pos 0; start = 0 }

abbrev one : Track
one = record { id = 1; x = 640; y = 256; vx = pos 0; vy = pos 16; start = 0 }

abbrev seven : Track
seven = record { id = 7; x = 1024; y = 896; vx = negsuc 15; vy = pos 0; start = 0 }

-- the same, opening late
abbrev seven-late : Track
seven-late = record { id = 7; x = 1024; y = 896; vx = negsuc 15; vy = pos 0; start = 20 }

abbrev three : Track
three = record { id = 3; x = 1152; y = 640; vx = negsuc 15; vy = pos 0; start = 0 }

abbrev before-four : Wall
before-four = record { id = 1; ax = 896; ay = 704; bx = 896; by = 832 }

abbrev before-seven : Wall
before-seven = record { id = 2; ax = 576; ay = 832; bx = 576; by = 960 }

abbrev sheet : Listing
sheet = record { tracks = four ∷ one ∷ seven ∷ three ∷ []; walls = before-four ∷ before-seven ∷ [] }

pub as_they_enter : cell_ids sheet 8 (cell 1 1) ≡ 7 ∷ 3 ∷ 4 ∷ 1 ∷ []
unfolding cell_ids cell_tracks ahead insert_by insert_all passing has_point entry_time entry exit entryᵃ exitᵃ enter leave border before later sooner plusᶜ past side time_of roll_of
as_they_enter = refl

pub both_at_the_start : cell_ids sheet 8 (cell 2 1) ≡ 3 ∷ 7 ∷ []
unfolding cell_ids cell_tracks ahead insert_by insert_all passing has_point entry_time entry exit entryᵃ exitᵃ enter leave border before later sooner plusᶜ past side time_of roll_of
both_at_the_start = refl

-- ---- tip 7 opens at 20

abbrev late-sheet : Listing
late-sheet = record { tracks = four ∷ one ∷ seven-late ∷ three ∷ []; walls = before-four ∷ before-seven ∷ [] }

pub as_they_open : cell_ids late-sheet 8 (cell 1 1) ≡ 3 ∷ 4 ∷ 1 ∷ 7 ∷ []
unfolding cell_ids cell_tracks ahead insert_by insert_all passing has_point entry_time entry exit entryᵃ exitᵃ enter leave border before later sooner plusᶜ past side time_of roll_of
as_they_open = refl
