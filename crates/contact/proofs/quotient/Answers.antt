-- `quotient` meets its contract.
use mathlib.Core.Path.{sym, ◌∙◌, ap}
use mir.Syntax.{w64}
use mir.Facts.{to_z-of_z}
use Rattle.fraction.proofs.Bounds.{back, fits_minus}
use Rattle.rule.specs.Contact.{over}
use Rattle.contact.proofs.Quotients.{sign_zero, minus_is, over_zero, over_minus}
use Rattle.contact.proofs.quotient.Goals as goal

pub overflow_sub-n : goal.overflow_sub-n
overflow_sub-n c = let p = c.requires in rw (back w64 p.0 tt) (fits_minus p.0 tt)

pub returns-in-Zero : goal.returns-in-Zero
returns-in-Zero c =
    let p = c.requires in
    let s = rw (back w64 p.1 tt) at c.sign_of.ensures in
    let x = sign_zero c.args.d (sym c.in-Zero.is ∙ s) in
    (rw x (over_zero _), tt)

pub returns-in-Minus : goal.returns-in-Minus
returns-in-Minus c =
    let p = c.requires in
    let s = rw (back w64 p.1 tt) at c.sign_of.ensures in
    let x = minus_is _ _ _ p.1 (sym c.in-Minus.is ∙ s) in
    let r = c.ratio-in-Minus.ensures in
    (rw (back w64 p.0 tt, to_z-of_z (fits_minus {w = w64} p.0 tt)) at r.0 ∙ over_minus _ _ x.some ∙ ap (over _) (sym x.is), r.1)
