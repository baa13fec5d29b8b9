-- The time is reduced first; the end point is taken at the age that the tip has then.
use mir.Syntax.{w8}
use Rattle.fraction.proofs.Bounds.{bounded_back}
use Rattle.row.proofs.Made.{had_opened, x_on_sheet, y_on_sheet, made}
use Rattle.row.proofs.row_of.Goals as goal

pub since-age-requires : goal.since-age-requires
since-age-requires c =
    let a = c.args in
    let p = c.requires in
    let r = c.reduce-at in
    let (s, o) = had_opened a.a a.t r.result p.1 r.ensures p.2 in
    (s, p.0.start_in, o)

pub sixty_fourth-x-requires : goal.sixty_fourth-x-requires
sixty_fourth-x-requires c =
    let a = c.args in
    let p = c.requires in
    let r = c.reduce-at in
    let s = c.since-age in
    rw (bounded_back w8 a.a.vx p.0.vx_in tt) (x_on_sheet a.a a.t r.result p.1 r.ensures s.result s.ensures p.0 p.2)

pub sixty_fourth-y-requires : goal.sixty_fourth-y-requires
sixty_fourth-y-requires c =
    let a = c.args in
    let p = c.requires in
    let r = c.reduce-at in
    let s = c.since-age in
    rw (bounded_back w8 a.a.vy p.0.vy_in tt) (y_on_sheet a.a a.t r.result p.1 r.ensures s.result s.ensures p.0 p.2)

pub returns : goal.returns
returns c =
    let a = c.args in
    let p = c.requires in
    let r = c.reduce-at in
    let s = c.since-age in
    let x = rw (bounded_back w8 a.a.vx p.0.vx_in tt) at c.sixty_fourth-x.ensures in
    let y = rw (bounded_back w8 a.a.vy p.0.vy_in tt) at c.sixty_fourth-y.ensures in
    made a.a a.t r.result p.1 r.ensures s.result s.ensures _ _ a.ending a.side x y
