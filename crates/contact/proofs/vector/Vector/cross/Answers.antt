-- `cross` meets its contract.
use mathlib.Core.Path.{refl}
use mir.Syntax.{w64}
use mir.Facts.{to_z-of_z}
use Rattle.fraction.proofs.Bounds.{back, fits-det, within-mul, within-det}
use Rattle.contact.proofs.vector.Vector.cross.Goals as goal

pub overflow_sub-result : goal.overflow_sub-result
overflow_sub-result c =
    let s = c.args.self in
    let o = c.args.other in
    rw (back w64 s.x_in tt, back w64 s.y_in tt, back w64 o.x_in tt, back w64 o.y_in tt, back w64 (within-mul s.x_in o.y_in) tt, back w64 (within-mul s.y_in o.x_in) tt) (fits-det s.x_in o.y_in s.y_in o.x_in tt)

pub returns : goal.returns
returns c =
    let s = c.args.self in
    let o = c.args.other in
    rw (to_z-of_z (overflow_sub-result c), back w64 s.x_in tt, back w64 s.y_in tt, back w64 o.x_in tt, back w64 o.y_in tt, back w64 (within-mul s.x_in o.y_in) tt, back w64 (within-mul s.y_in o.x_in) tt) (refl, within-det s.x_in o.y_in s.y_in o.x_in tt)
