-- The box so far, of the points so far.
use Rattle.shapefile.specs.Figures.{points}
use lib.Dec.{lit<}
use Rattle.shape_records.proofs.Boxes.{widen_is}
use Rattle.shapefile.specs.Extent.{widest}
use Rattle.shape_records.specs.Shapes.{bounds_of}
use Rattle.shape_files.proofs.Closed.{none, narrows_append, narrow_points, widest_narrow, extent_narrow, widest-append, closed_is}
use Rattle.shapefile.specs.Files.{figure}
use Rattle.shape_files.specs.Boxing.{inverted}
use Rattle.shape_files.proofs.Run.{so_far, so_far_more, so_far_none, so_far_all, no_passage}
use mathlib.Core.Path.{◌≡◌, sym, ap, ◌∙◌}
use native.Mathlib.Omega.{arith}
use lib.ListN.{length, get_or}
use Rattle.shape_files.proofs.bounds_of.Goals as goal

pub loop-p-init : goal.loop-p-init
unfolding widest
loop-p-init c = rw (so_far_none c.args.layer c.args.passages.now) (none, c.no_bounds-b.ensures)

pub loop-p-preserved : goal.loop-p-preserved
loop-p-preserved c =
    let s = c.shape_of.ensures in
    let k = c.args.layer in
    let ps = c.args.passages.now in
    let f = figure k (get_or ps c.loop-p.p-index no_passage) in
    let m = so_far k ps c.loop-p.p-index in
    let w = widest_narrow inverted m (record { left = lit< tt; low = lit< tt; right = lit< tt; high = lit< tt }) c.loop-p.invariant.0 in
    let q = rw (s.0, c.loop-p.invariant.1, widen_is (widest inverted m) f w s.1) at c.widened-b.ensures in
    rw (so_far_more k ps c.loop-p.p-index (omega arith)) (narrows_append m c.loop-p.invariant.0 (narrow_points f s.1), q ∙ ap bounds_of (sym (widest-append inverted m (points f))))

pub returns : goal.returns
returns c =
    let i : c.loop-p.p-index ≡ length c.args.passages.now = omega arith in
    let all = so_far_all c.args.layer c.args.passages.now in
    let h = rw (i, all) at c.loop-p.invariant.0 in
    let b = rw (i, all) at c.loop-p.invariant.1 in
    (rw b at c.closed_bounds.ensures ∙ closed_is _ h, extent_narrow _ h)
