-- The records counted and those left are all of them.
use Rattle.shapefile.specs.Figures.{content}
use Rattle.shape_records.specs.Shapes.{content_of}
use Rattle.shapefile.specs.Files.{figure}
use Rattle.shape_files.proofs.Run.{drawn, rest_none, rest-length, no_passage}
use mathlib.Core.Path.{◌≡◌}
use native.Mathlib.Omega.{arith}
use lib.ListN.{length, get_or}
use Rattle.shape_files.proofs.size_of.Goals as goal

pub loop-p-preserved : goal.loop-p-preserved
loop-p-preserved c =
    let s = c.shape_of.ensures in
    let k = c.args.layer in
    let ps = c.args.passages.now in
    let f = figure k (get_or ps c.loop-p.p-index no_passage) in
    let g = rest-length k ps c.loop-p.p-index (omega arith) in
    let t : content_of c.shape_of.result ≡ content f = drawn f s in
    let q = rw t at c.record_size-total.ensures.0 in
    (omega arith, omega arith)

pub returns : goal.returns
returns c =
    let i : c.loop-p.p-index ≡ length c.args.passages.now = omega arith in
    let p = rw (i, rest_none c.args.layer c.args.passages.now) at c.loop-p.invariant.1 in
    (omega arith, omega arith)
