-- `edge_age` meets its contract.
use mathlib.Core.Path.{◌∙◌}
use mir.Syntax.{w8}
use Rattle.fraction.proofs.Bounds.{bounded_back}
use Rattle.contact.proofs.Edge.{edge_is}
use Rattle.contact.proofs.edge_age.Goals as goal

pub returns : goal.returns
returns c =
    let a = c.args.a in
    let p = c.requires in
    let x = rw (bounded_back w8 a.vx p.vx_in tt) at c.exit_of.ensures.0 in
    let y = rw (bounded_back w8 a.vy p.vy_in tt) at c.exit_of-2.ensures.0 in
    let r = c.earlier.ensures in
    let e = rw (x, y) at r.0 ∙ edge_is a in
    (e, r.1)
