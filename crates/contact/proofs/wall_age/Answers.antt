-- `wall_age` meets its contract.
use mathlib.Core.Path.{◌∙◌}
use Rattle.rule.specs.WallTime.{along, turned}
use Rattle.contact.proofs.Tracks.{seen_zero, seen_off, seen_reach, seen_pair}
use Rattle.contact.proofs.Lines.{wall_line_lem, wall-cross}
use Rattle.contact.proofs.wall_age.Goals as goal

pub returns-then-den-eq0 : goal.returns-then-den-eq0
unfolding along
returns-then-den-eq0 c =
    let a = c.args.a in
    let w = c.args.w in
    let d = c.between-d.ensures in
    let u = c.speed-u.ensures in
    let v = c.between-v.ensures in
    let near = seen_reach a (along w) d u c.reach-near.ensures.0 in
    let far = seen_reach a (along (turned w)) c.between.ensures u c.reach-far.ensures.0 in
    let r = c.earlier.ensures in
    (r.0 ∙ wall_line_lem a w (seen_zero a (along w) d u v c.cross-den.ensures c.if-den-eq0.true) near far, r.1)

pub returns : goal.returns
unfolding along
returns c =
    let a = c.args.a in
    let w = c.args.w in
    let d = c.between-d.ensures in
    let u = c.speed-u.ensures in
    let v = c.between-v.ensures in
    let r = c.on_wall.ensures in
    (r.0 ∙ wall-cross a w (seen_off a (along w) d u v c.cross-den.ensures c.if-den-eq0.false) (seen_pair a (along w) d u v c.cross-den.ensures c.crossing.ensures.0), r.1)
