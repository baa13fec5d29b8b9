-- The second number where the first ends.
use Rattle.byte_order.specs.Bytes.{le_bytes}
use Rattle.byte_order.proofs.Bytes.{le_length}
use Rattle.byte_order.proofs.Stores.{next}
use Rattle.row.proofs.put_two.Goals as goal

pub returns : goal.returns
returns c =
    let a = c.args in
    next a.out.now a.at (le_bytes a.w a.a) (le_bytes a.w a.b) c.put.ensures c.put-2.ensures (simp le_length)
