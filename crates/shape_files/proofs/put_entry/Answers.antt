-- Two integers.
use Rattle.byte_order.specs.Orders.{be_bytes}
use Rattle.byte_order.proofs.Orders.{be_length}
use Rattle.byte_order.proofs.Stores.{two}
use Rattle.shape_files.proofs.put_entry.Goals as goal

pub returns : goal.returns
returns c =
    let a = c.args in
    two a.out.now a.at (be_bytes 4 a.offset) (be_bytes 4 a.words) c.put_in.ensures c.put_in-2.ensures (simp be_length)
