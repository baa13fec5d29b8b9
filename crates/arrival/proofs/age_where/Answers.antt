-- `age_where` meets its contract.
use mathlib.Core.Path.{◌≡◌, sym, ◌∙◌}
use lib.IntN.{pos}
use Rattle.fraction.proofs.Bounds.{reads}
use Rattle.contact.proofs.Tests.{zero_yes, zero_no}
use Rattle.contact.proofs.Tracks.{speed_is, speed}
use Rattle.arrival.proofs.Ends.{arrive_x, arrive_y}
use Rattle.arrival.proofs.age_where.Goals as goal

pub returns-then-v-eq0 : goal.returns-then-v-eq0
returns-then-v-eq0 c =
    let (ha, hb, hq) = c.requires in
    let u = c.speed-v.ensures in
    let z = sym (speed_is c.args.a.vx ha.vx_in u) ∙ zero_yes u.1 tt c.if-v-eq0.true in
    let r = c.along.ensures in
    (rw (reads c.gap-d.ensures tt, speed c.args.a.vy ha.vy_in c.speed.ensures, speed c.args.b.vy hb.vy_in c.speed-then-v-eq0.ensures) at r.0 ∙ arrive_y c.args.a c.args.b _ z, r.1)

pub returns : goal.returns
returns c =
    let (ha, hb, hq) = c.requires in
    let u = c.speed-v.ensures in
    let z : c.args.a.vx ≡ pos 0 → ⊥ = λ e. zero_no _ c.if-v-eq0.false (speed_is c.args.a.vx ha.vx_in u ∙ e) in
    let r = c.along-2.ensures in
    (rw (reads c.gap-d-2.ensures tt, speed c.args.a.vx ha.vx_in u, speed c.args.b.vx hb.vx_in c.speed-2.ensures) at r.0 ∙ arrive_x c.args.a c.args.b _ z, r.1)
