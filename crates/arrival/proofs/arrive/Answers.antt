-- `arrive` meets its contract.
use mathlib.Core.Path.{◌≡◌, refl, ap, ◌∙◌}
use Rattle.fraction.specs.Time.{Time, as_time}
use Rattle.fraction.proofs.Shift.{earlier_is}
use Rattle.fraction.proofs.Sizes.{small_timely}
use Rattle.rule.specs.Motion.{age}
use Rattle.rule.specs.Contact.{zero_z, arrive_on}
use Rattle.contact.specs.Answers.{quot_of}
use Rattle.contact.proofs.Answers.{was_some, moved_timely}
use Rattle.arrival.proofs.Ends.{arrival-off, arrival_none, arrival-at}
use Rattle.arrival.proofs.arrive.Goals as goal

pub returns-then-not-parallel : goal.returns-then-not-parallel
returns-then-not-parallel c = (arrival-off _ _ _ (c.parallel.ensures.1 c.if-not-parallel.true), tt, tt)

pub returns-in_err-age : goal.returns-in_err-age
returns-in_err-age c =
    let there : quot_of c.age_where.result ≡ arrive_on c.args.a c.args.b (zero_z c.args.a.vx) (age c.args.b (as_time c.args.end)) =
    c.age_where.ensures.0 ∙ ap (λ (k : Time). arrive_on c.args.a c.args.b (zero_z c.args.a.vx) k) (ap as_time c.since.ensures ∙ earlier_is c.args.b.start c.args.end c.requires.2.den_pos) in
    let z = c.parallel.ensures.0 c.if-not-parallel.false in
    rw c.from_residual.ensures (arrival_none _ _ _ z there c.in_err-age.was, tt, tt)

pub returns : goal.returns
returns c =
    let there : quot_of c.age_where.result ≡ arrive_on c.args.a c.args.b (zero_z c.args.a.vx) (age c.args.b (as_time c.args.end)) =
    c.age_where.ensures.0 ∙ ap (λ (k : Time). arrive_on c.args.a c.args.b (zero_z c.args.a.vx) k) (ap as_time c.since.ensures ∙ earlier_is c.args.b.start c.args.end c.requires.2.den_pos) in
    let z = c.parallel.ensures.0 c.if-not-parallel.false in
    let e = c.in_ok-age.was in
    let y = was_some e refl c.age_where.ensures.1 in
    let k = c.later-at.ensures in
    (arrival-at _ _ _ z there e y.young k, (moved_timely _ y.young c.requires.0.start_in k, small_timely c.requires.2), c.track_side-side.ensures)
