-- `place` meets its contract.
use mathlib.Core.Path.{refl}
use mir.Syntax.{w64}
use mir.Facts.{to_z-of_z}
use Rattle.fraction.proofs.Bounds.{fits, back, fits_sum, within-sum}
use borrow.Author.Rules.{rules}
use Rattle.arrival.proofs.place.Goals as goal

pub overflow_mul-result : goal.overflow_mul-result
overflow_mul-result c = search (fits, rules)

pub overflow_mul-result-2 : goal.overflow_mul-result-2
overflow_mul-result-2 c = search (fits, rules)

pub overflow_add-result : goal.overflow_add-result
overflow_add-result c =
    let p = c.requires in
    rw (to_z-of_z (overflow_mul-result c), to_z-of_z (overflow_mul-result-2 c), back w64 p.0 tt, back w64 p.1 tt, back w64 p.2 tt, back w64 p.3 tt) (fits_sum p.0 p.1 p.2 p.3 tt)

pub returns : goal.returns
returns c =
    let p = c.requires in
    rw (to_z-of_z (overflow_add-result c), to_z-of_z (overflow_mul-result c), to_z-of_z (overflow_mul-result-2 c), back w64 p.0 tt, back w64 p.1 tt, back w64 p.2 tt, back w64 p.3 tt) (refl, within-sum p.0 p.1 p.2 p.3 tt)
