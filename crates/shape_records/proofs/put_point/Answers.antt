-- Two doubles.
use Rattle.shape_records.proofs.Records.{point_put}
use Rattle.shape_records.proofs.put_point.Goals as goal

pub returns : goal.returns
returns c =
    let a = c.args in
    point_put a.out.now a.at a.p.x a.p.y c.put_double.ensures c.put_double-2.ensures
