-- `facing` meets its contract.
use native.Mathlib.Omega.{arith}
use mir.Syntax.{w64}
use Rattle.fraction.proofs.Bounds.{back, reads}
use Rattle.contact.proofs.Answers.{young_unit, asked_none, asked_some, faced-first, faced_second, faced-both}
use Rattle.contact.proofs.facing.Goals as goal

pub returns-in_default : goal.returns-in_default
returns-in_default c =
    let p = c.requires in
    let t = c.args in
    let l = c.closing-c.ensures in
    let e = reads (rw (back w64 p.1 tt, back w64 p.2 tt) at l.0, l.1) tt in
    let h = c.nearer.ensures in
    let n = reads (rw (back w64 p.0 tt, back w64 p.3 tt, back w64 p.2 tt) at h.0, h.1) tt in
    (faced-first _ _ _ _ t.near t.far (asked_none n e c.quotient.ensures c.in_default.is), (young_unit 0 (omega arith), p.5))

pub returns-in_default-quotient : goal.returns-in_default-quotient
returns-in_default-quotient c =
    let p = c.requires in
    let t = c.args in
    let l = c.closing-c.ensures in
    let e = reads (rw (back w64 p.1 tt, back w64 p.2 tt) at l.0, l.1) tt in
    let h = c.nearer.ensures in
    let n = reads (rw (back w64 p.0 tt, back w64 p.3 tt, back w64 p.2 tt) at h.0, h.1) tt in
    let g = c.nearer-2.ensures in
    let m = reads (rw (back w64 p.0 tt, back w64 p.3 tt, back w64 p.1 tt) at g.0, g.1) tt in
    let x = asked_some n e c.quotient.ensures c.in-Some.is in
    (faced_second _ _ _ _ t.near t.far x (asked_none m e c.quotient-2.ensures c.in_default-quotient.is), (p.4, young_unit 0 (omega arith)))

pub returns : goal.returns
returns c =
    let p = c.requires in
    let t = c.args in
    let l = c.closing-c.ensures in
    let e = reads (rw (back w64 p.1 tt, back w64 p.2 tt) at l.0, l.1) tt in
    let h = c.nearer.ensures in
    let n = reads (rw (back w64 p.0 tt, back w64 p.3 tt, back w64 p.2 tt) at h.0, h.1) tt in
    let g = c.nearer-2.ensures in
    let m = reads (rw (back w64 p.0 tt, back w64 p.3 tt, back w64 p.1 tt) at g.0, g.1) tt in
    let x = asked_some n e c.quotient.ensures c.in-Some.is in
    let y = asked_some m e c.quotient-2.ensures c.in-Some-quotient.is in
    (faced-both _ _ _ _ t.near t.far x y, (x.young, y.young))
