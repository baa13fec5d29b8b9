-- Four doubles.
use Rattle.shape_records.proofs.Records.{bounds_put}
use Rattle.shape_records.proofs.put_bounds.Goals as goal

pub returns : goal.returns
returns c =
    let a = c.args in
    bounds_put a.out.now a.at a.b c.put_double.ensures c.put_double-2.ensures c.put_double-3.ensures c.put_double-4.ensures
