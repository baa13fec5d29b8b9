-- `along` meets its contract.
use mathlib.Core.Path.{◌∙◌}
use mir.Syntax.{w64}
use Rattle.fraction.proofs.Bounds.{back, reads}
use Rattle.contact.proofs.Answers.{asked}
use Rattle.arrival.proofs.Ends.{arrive_is}
use Rattle.arrival.proofs.along.Goals as goal

pub returns : goal.returns
returns c =
    let p = c.requires in
    let m = reads c.signed-num.ensures tt in
    let q = reads c.signed-den.ensures tt in
    let k = c.place.ensures in
    let l = c.scaled.ensures in
    let x = reads (rw (back w64 p.0 tt, q, back w64 p.2 tt, m) at k.0, k.1) tt in
    let y = reads (rw (back w64 p.1 tt, q) at l.0, l.1) tt in
    let r = c.quotient.ensures in
    (asked x y c.quotient.result r.0 ∙ arrive_is _ _ _ _ p.3.den_pos, r.1)
