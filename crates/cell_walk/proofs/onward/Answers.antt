-- `onward` meets its contract.
use native.Mathlib.Omega.{arith}
use mir.Facts.{to_z-of_z}
use Rattle.cell_walk.proofs.Headings.{onward_up, onward_down}
use Rattle.cell_walk.proofs.onward.Goals as goal

pub returns-in-Up : goal.returns-in-Up
returns-in-Up c =
    onward_up (rw (to_z-of_z c.ranges.v) at c.heading_of.ensures) c.args.col c.in-Up.is

pub returns-then-col-eq0 : goal.returns-then-col-eq0
returns-then-col-eq0 c =
    let e = onward_down (rw (to_z-of_z c.ranges.v) at c.heading_of.ensures) c.args.col c.in-Down.is in
    omega (arith, c.if-col-eq0.true)

pub returns-else-col-eq0 : goal.returns-else-col-eq0
returns-else-col-eq0 c =
    onward_down (rw (to_z-of_z c.ranges.v) at c.heading_of.ensures) c.args.col c.in-Down.is
