-- `look_near` takes the first of the walls near the cell, and then of that and the best cause.
use Rattle.records.specs.SheetIn.{sheet_in}
use mathlib.Core.Path.{refl}
use Rattle.grid_steps.proofs.Taken.{on_sheet}
use Rattle.grid_steps.proofs.look_near.Goals as goal

pub look_walls-base-requires : goal.look_walls-base-requires
look_walls-base-requires c =
    let m = c.requires.1 in
    rw c.tracks.ensures (on_sheet (sheet_in c.args.records.now) c.args.records.now.handed.accepted c.args.i m.tip_within refl, m.base)
