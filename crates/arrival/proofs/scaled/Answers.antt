-- `scaled` meets its contract.
use mathlib.Core.Path.{refl}
use mir.Syntax.{w64}
use mir.Facts.{to_z-of_z}
use Rattle.fraction.proofs.Bounds.{fits, back, within-mul, within_wide}
use borrow.Author.Rules.{rules}
use Rattle.arrival.proofs.scaled.Goals as goal

pub overflow_mul-result : goal.overflow_mul-result
overflow_mul-result c = search (fits, rules)

pub returns : goal.returns
returns c =
    let p = c.requires in
    rw (to_z-of_z (overflow_mul-result c), back w64 p.0 tt, back w64 p.1 tt) (refl, within_wide (within-mul p.0 p.1) tt)
