-- Three integers.
use Rattle.shape_records.proofs.Records.{counts_put}
use Rattle.shape_records.proofs.put_counts.Goals as goal

pub returns : goal.returns
returns c =
    let a = c.args in
    counts_put a.out.now a.at c.put_in.ensures c.put_in-2.ensures c.put_in-3.ensures
