-- `turned` meets its contract.
use mathlib.Core.Path.{sym, ◌∙◌}
use mir.Facts.{to_z-of_z}
use Rattle.cell_walk.proofs.Crossings.{turn-x, turn-y, turn-both}
use Rattle.cell_walk.proofs.turned.Goals as goal

pub returns-then-prior : goal.returns-then-prior
returns-then-prior c =
    turn-x c.args.lx c.args.ly c.args.vx c.args.vy c.args.k (sym c.prior.ensures ∙ c.if-prior.true) (rw (to_z-of_z c.ranges.vx) at c.onward-column.ensures)

pub returns-then-prior-2 : goal.returns-then-prior-2
returns-then-prior-2 c =
    turn-y c.args.lx c.args.ly c.args.vx c.args.vy c.args.k (sym c.prior.ensures ∙ c.if-prior.false) (sym c.prior-2.ensures ∙ c.if-prior-2.true) (rw (to_z-of_z c.ranges.vy) at c.onward-row.ensures)

pub returns : goal.returns
returns c =
    turn-both c.args.lx c.args.ly c.args.vx c.args.vy c.args.k (sym c.prior.ensures ∙ c.if-prior.false) (sym c.prior-2.ensures ∙ c.if-prior-2.false) (rw (to_z-of_z c.ranges.vx) at c.onward-column.ensures) (rw (to_z-of_z c.ranges.vy) at c.onward-row.ensures)
