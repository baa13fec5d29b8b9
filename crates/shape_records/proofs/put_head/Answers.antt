-- Three integers, two of them high byte first.
use Rattle.shape_records.proofs.Records.{head_put}
use Rattle.shape_records.proofs.put_head.Goals as goal

pub returns : goal.returns
returns c =
    let a = c.args in
    head_put a.out.now a.at a.n a.words a.code c.put_in.ensures c.put_in-2.ensures c.put_in-3.ensures
