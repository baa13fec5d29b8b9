-- The records not yet stored, stored behind those that are, are all records.
use Rattle.shapefile.specs.Figures.{content}
use Rattle.shape_records.specs.Shapes.{content_of}
use Rattle.shape_records.proofs.Contents.{figure_sound}
use Rattle.shapefile.specs.Files.{figure}
use Rattle.shape_files.proofs.Run.{drawn, rest_none, rest-length, rest_more, no_passage}
use mathlib.Core.Path.{◌≡◌}
use native.Mathlib.Omega.{arith}
use lib.ListN.{length, get_or}
use Rattle.shape_files.proofs.put_records.Goals as goal

pub put_record-at-requires : goal.put_record-at-requires
put_record-at-requires c =
    let s = c.shape_of.ensures in
    let k = c.args.layer in
    let ps = c.args.passages.now in
    let f = figure k (get_or ps c.loop-i.i no_passage) in
    let g = rest-length k ps c.loop-i.i (omega arith) in
    let t : content_of c.shape_of.result ≡ content f = drawn f s in
    (rw t (omega arith), rw s.0 (figure_sound f s.1))

pub loop-i-preserved : goal.loop-i-preserved
loop-i-preserved c =
    let s = c.shape_of.ensures in
    let k = c.args.layer in
    let ps = c.args.passages.now in
    let f = figure k (get_or ps c.loop-i.i no_passage) in
    let g = rest-length k ps c.loop-i.i (omega arith) in
    let t : content_of c.shape_of.result ≡ content f = drawn f s in
    let q = rw t at c.put_record-at.ensures.0 in
    let r = rw t at c.put_record-at.ensures.1 in
    (omega (arith, c.put_record-at.auto.out), omega arith, rw (r, q, rest_more k ps c.loop-i.i (omega arith) c.loop-i.out c.loop-i.at) c.loop-i.invariant.2)

pub returns : goal.returns
returns c =
    let i : c.loop-i.i ≡ length c.args.passages.now = omega arith in
    rw (i, rest_none c.args.layer c.args.passages.now) at c.loop-i.invariant.2
