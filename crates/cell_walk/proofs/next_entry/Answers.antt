-- `next_entry` meets its contract.
use mir.Syntax.{w8}
use Rattle.fraction.proofs.Bounds.{bounded_back}
use Rattle.cell_walk.proofs.Crossings.{cross_early, cross_by}
use borrow.Author.Rules.{rules}
use Rattle.cell_walk.proofs.next_entry.Goals as goal

pub opened-when-requires : goal.opened-when-requires
opened-when-requires c =
    let a = c.args.a in
    let bx = bounded_back w8 a.vx c.requires.0.vx_in tt in
    let by = bounded_back w8 a.vy c.requires.0.vy_in tt in
    (cross_early a c.args.s c.args.k (rw bx at c.column_exit-lx.ensures) (rw by at c.column_exit-ly.ensures) (rw (bx, by) at c.turned-next.ensures), search rules)

pub returns : goal.returns
returns c =
    let a = c.args.a in
    let bx = bounded_back w8 a.vx c.requires.0.vx_in tt in
    let by = bounded_back w8 a.vy c.requires.0.vy_in tt in
    cross_by a c.args.s c.args.k (rw bx at c.column_exit-lx.ensures) (rw by at c.column_exit-ly.ensures) (rw (bx, by) at c.turned-next.ensures) c.opened-when.ensures
