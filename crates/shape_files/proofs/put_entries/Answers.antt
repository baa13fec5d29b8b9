-- The entries not yet stored, stored behind those that are, are all entries.
use Rattle.shapefile.specs.Figures.{content}
use Rattle.shape_records.specs.Shapes.{content_of}
use Rattle.shapefile.specs.Files.{figure}
use Rattle.shape_files.proofs.Run.{drawn, left_none, left-more, no_passage}
use Prim.Native.Nat.{◌-◌, ◌+◌, ◌*◌, ◌/◌}
use mathlib.Core.Path.{◌≡◌}
use native.Mathlib.Omega.{arith}
use lib.ListN.{length, get_or}
use Rattle.shape_files.proofs.put_entries.Goals as goal

pub loop-i-preserved : goal.loop-i-preserved
loop-i-preserved c =
    let s = c.shape_of.ensures in
    let k = c.args.layer in
    let ps = c.args.passages.now in
    let f = figure k (get_or ps c.loop-i.i no_passage) in
    let t : content_of c.shape_of.result ≡ content f = drawn f s in
    let size = c.record_size-size.result in
    let q : size ≡ 8 + length (content f) = rw t at c.record_size-size.ensures.0 in
    let w : (size - 8) / 2 ≡ length (content f) / 2 = omega arith in
    let o : c.loop-i.offset + size / 2 ≡ c.loop-i.offset + (4 + length (content f) / 2) = omega arith in
    let a : 100 + 8 * (c.loop-i.i + 1) ≡ 100 + 8 * c.loop-i.i + 8 = omega arith in
    let r = rw w at c.put_entry.ensures in
    (omega (arith, c.put_entry.auto.out), omega (arith, c.record_size-size.ensures.1), rw (r, o, a, left-more k ps c.loop-i.i (omega arith) c.loop-i.offset c.loop-i.out (100 + 8 * c.loop-i.i)) c.loop-i.invariant.2)

pub returns : goal.returns
returns c =
    let i : c.loop-i.i ≡ length c.args.passages.now = omega arith in
    rw (i, left_none c.args.layer c.args.passages.now) at c.loop-i.invariant.2
