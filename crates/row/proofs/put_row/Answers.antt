-- The fields one behind the other.
use Rattle.row.proofs.Roll.{row_put}
use Rattle.row.proofs.put_row.Goals as goal

pub returns : goal.returns
returns c =
    let a = c.args in
    row_put a.out.now a.at a.row c.side_number.ensures c.put.ensures c.put_ending.ensures c.put_two.ensures c.put_two-2.ensures c.put-2.ensures
