-- `column_entry` meets its contract.
use mir.Facts.{to_z-of_z}
use Rattle.cell_walk.proofs.Headings.{enter-up, enter-down}
use Rattle.cell_walk.proofs.column_entry.Goals as goal

pub returns-in-Up : goal.returns-in-Up
returns-in-Up c =
    enter-up (rw (to_z-of_z c.ranges.v) at c.heading_of.ensures) c.args.x c.args.s c.args.col c.in-Up.is c.rising.ensures

pub returns-in-Down : goal.returns-in-Down
returns-in-Down c =
    enter-down (rw (to_z-of_z c.ranges.v) at c.heading_of.ensures) c.args.x c.args.s c.args.col c.in-Down.is c.falling.ensures
