-- The head and the point.
use Rattle.shape_records.proofs.Records.{end_put}
use Rattle.shape_records.specs.Shapes.{bits}
use Rattle.shape_records.proofs.put_end.Goals as goal

pub returns : goal.returns
returns c =
    let a = c.args in
    end_put a.out.now a.at a.n (bits a.p.x) (bits a.p.y) c.put_head.ensures c.put_point.ensures
