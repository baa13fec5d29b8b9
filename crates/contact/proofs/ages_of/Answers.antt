-- `ages_of` meets its contract.
use Rattle.fraction.proofs.Bounds.{reads}
use mathlib.Core.Path.{◌∙◌}
use Rattle.contact.proofs.Tracks.{seen_zero, seen_off, seen_reach, seen_pair}
use Rattle.contact.proofs.Lines.{ages_line, ages-cross}
use Rattle.contact.proofs.ages_of.Goals as goal

pub returns-then-den-eq0 : goal.returns-then-den-eq0
returns-then-den-eq0 c =
    let a = c.args.a in
    let b = c.args.b in
    let d = c.between-d.ensures in
    let u = c.speed-u.ensures in
    let v = c.speed-v.ensures in
    let near = seen_reach a b d u c.reach-near.ensures.0 in
    let far = seen_reach b a c.between.ensures v c.reach-far.ensures.0 in
    let r = c.on_line.ensures in
    (rw (d.0, d.1, u.0, u.1, v.0, v.1, reads c.gap-k.ensures tt) at r.0 ∙ ages_line a b (seen_zero a b d u v c.cross-den.ensures c.if-den-eq0.true) near far, r.1)

pub returns : goal.returns
returns c =
    let a = c.args.a in
    let b = c.args.b in
    let d = c.between-d.ensures in
    let u = c.speed-u.ensures in
    let v = c.speed-v.ensures in
    let r = c.crossing.ensures in
    (ages-cross a b (seen_off a b d u v c.cross-den.ensures c.if-den-eq0.false) (seen_pair a b d u v c.cross-den.ensures r.0), r.1)
