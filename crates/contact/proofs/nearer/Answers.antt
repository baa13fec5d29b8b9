-- `nearer` meets its contract.
use mathlib.Core.Path.{refl}
use mir.Syntax.{w64}
use mir.Facts.{to_z-of_z}
use Rattle.fraction.proofs.Bounds.{fits, back, fits_line, within_line}
use borrow.Author.Rules.{rules}
use Rattle.contact.proofs.nearer.Goals as goal

pub overflow_mul-result : goal.overflow_mul-result
overflow_mul-result c = search (fits, rules)

pub overflow_add-result : goal.overflow_add-result
overflow_add-result c =
    let p = c.requires in
    rw (to_z-of_z (overflow_mul-result c), back w64 p.0 tt, back w64 p.1 tt, back w64 p.2 tt) (fits_line p.0 p.1 p.2 tt)

pub returns : goal.returns
returns c =
    let p = c.requires in
    rw (to_z-of_z (overflow_add-result c), to_z-of_z (overflow_mul-result c), back w64 p.0 tt, back w64 p.1 tt, back w64 p.2 tt) (refl, within_line p.0 p.1 p.2 tt)
