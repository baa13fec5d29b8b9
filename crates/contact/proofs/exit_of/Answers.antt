-- `exit_of` meets its contract.
use mathlib.Core.Path.{sym, ◌∙◌, ap}
use native.Mathlib.Omega.{arith}
use mir.Facts.{to_z-of_z}
use Rattle.fraction.proofs.Bounds.{reads, fits-within}
use Rattle.rule.specs.EdgeTime.{exit}
use Rattle.contact.proofs.Quotients.{sign_zero, plus_is, minus_is}
use Rattle.contact.proofs.Edge.{exit_none, exit-up, exit-down}
use Rattle.contact.proofs.exit_of.Goals as goal

pub returns-in-Zero : goal.returns-in-Zero
returns-in-Zero c =
    let f = c.ranges.v in
    let w = c.speed.ensures in
    let s = rw (reads w tt, to_z-of_z f) at c.sign_of.ensures in
    let x = sign_zero c.args.v (sym c.in-Zero.is ∙ s) in
    (rw x (exit_none _), tt)

pub returns-in-Plus : goal.returns-in-Plus
returns-in-Plus c =
    let f = c.ranges.v in
    let w = c.speed.ensures in
    let s = rw (reads w tt, to_z-of_z f) at c.sign_of.ensures in
    let x = plus_is _ _ _ (fits-within f) (sym c.in-Plus.is ∙ s) in
    (exit-up _ _ x.some ∙ ap (exit _) (sym x.is), record { num_in = omega arith; den_in = omega (arith, x.most); den_pos = x.some })

pub returns-in-Minus : goal.returns-in-Minus
returns-in-Minus c =
    let f = c.ranges.v in
    let w = c.speed.ensures in
    let s = rw (reads w tt, to_z-of_z f) at c.sign_of.ensures in
    let x = minus_is _ _ _ (fits-within f) (sym c.in-Minus.is ∙ s) in
    (exit-down _ _ x.some ∙ ap (exit _) (sym x.is), record { num_in = omega (arith, c.requires); den_in = omega (arith, x.most); den_pos = x.some })
