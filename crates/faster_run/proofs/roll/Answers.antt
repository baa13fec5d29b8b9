-- `roll` writes the roll by one run or the other.
use mathlib.Core.Path.{refl}
use Rattle.cells.specs.Grid.{is_figure}
use Rattle.cells.proofs.Figures.{is_figure_lem}
use Rattle.faster_run.proofs.roll.Goals as goal

pub roll-requires-else-sheet-le-FEW_TRACKS : goal.roll-requires-else-sheet-le-FEW_TRACKS
unfolding is_figure
roll-requires-else-sheet-le-FEW_TRACKS c = let p = c.requires in (p.0, is_figure_lem _ refl, p.1)
