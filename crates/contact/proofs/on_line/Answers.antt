-- `on_line` meets its contract.
use mathlib.Core.Path.{refl, ◌∙◌}
use native.Mathlib.Omega.{arith}
use mir.Syntax.{w64}
use Rattle.fraction.proofs.Bounds.{back}
use Rattle.contact.proofs.Tests.{zero_yes, zero_no}
use Rattle.contact.proofs.Answers.{was_some, young_unit, start_none, start_theirs, start_mine, face_x, face_y}
use Rattle.contact.proofs.on_line.Goals as goal

pub returns-in-None-None : goal.returns-in-None-None
returns-in-None-None c = (start_none _ _ _ _ _ _ _ c.in-None-None.is-0 c.in-None-None.is-1, tt)

pub returns-in-None-Some : goal.returns-in-None-Some
returns-in-None-Some c =
    let h = was_some c.in-None-Some.is-1 refl c.requires.1 in
    (start_theirs _ _ _ _ _ _ _ c.in-None-Some.is-0 c.in-None-Some.is-1, (young_unit 0 (omega arith), h.young))

pub returns-in-Some-None : goal.returns-in-Some-None
returns-in-Some-None c =
    let h = was_some c.in-Some-None.is-0 refl c.requires.0 in
    (start_mine _ _ _ _ _ _ _ c.in-Some-None.is-0 c.in-Some-None.is-1, (h.young, young_unit 0 (omega arith)))

pub returns-then-u-eq0 : goal.returns-then-u-eq0
returns-then-u-eq0 c =
    let t = c.args in
    let r = c.facing.ensures in
    (rw (back w64 t.d.y_in tt, back w64 t.u.y_in tt, back w64 t.v.y_in tt, back w64 c.requires.2 tt) at r.0 ∙ face_y _ _ _ _ _ _ _ c.in-Some-Some.is-0 c.in-Some-Some.is-1 (zero_yes t.u.x_in tt c.if-u-eq0.true), r.1)

pub returns-else-u-eq0 : goal.returns-else-u-eq0
returns-else-u-eq0 c =
    let t = c.args in
    let r = c.facing-in-Some-Some.ensures in
    (rw (back w64 t.d.x_in tt, back w64 t.u.x_in tt, back w64 t.v.x_in tt, back w64 c.requires.2 tt) at r.0 ∙ face_x _ _ _ _ _ _ _ c.in-Some-Some.is-0 c.in-Some-Some.is-1 (zero_no _ c.if-u-eq0.false), r.1)
