-- `schedule`: what `entry_of` asks of the tip.
use Rattle.records.specs.SheetIn.{sheet_in}
use mathlib.Core.Path.{refl}
use Rattle.grid_steps.proofs.Taken.{tip_ok}
use Rattle.grid_steps.proofs.schedule.Goals as goal

pub entry_of-entry-requires : goal.entry_of-entry-requires
entry_of-entry-requires c =
    let m = c.requires in
    rw c.tracks.ensures (
      tip_ok (sheet_in c.args.records.now) c.args.records.now.handed.accepted c.args.i m.tip_within refl,
      m.in_grid.side_in,
      m.in_grid.column_in,
      m.in_grid.row_in,
      m.fine,
    )
