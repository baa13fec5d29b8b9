-- The head, the box, the counts and the points.
use Rattle.shape_records.proofs.Records.{line_put}
use Rattle.shape_records.proofs.Contents.{bounds_length}
use Rattle.shape_records.specs.Shapes.{bits, spanned, bounds_bytes}
use Rattle.shape_records.proofs.put_line.Goals as goal

pub returns : goal.returns
returns c =
    let a = c.args in
    let b = spanned a.p a.q in
    let q = rw c.spanned_by.ensures.0 at c.put_bounds.ensures in
    line_put a.out.now a.at a.n (bounds_bytes b) (bits a.p.x) (bits a.p.y) (bits a.q.x) (bits a.q.y) (bounds_length b)
    c.put_head.ensures q c.put_counts.ensures c.put_point.ensures c.put_point-2.ensures
