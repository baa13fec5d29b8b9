-- The partner behind the kind.
use Rattle.byte_order.specs.Bytes.{le_bytes}
use Rattle.byte_order.proofs.Bytes.{le_length}
use Rattle.byte_order.proofs.Stores.{next}
use Rattle.rule.specs.RowBytes.{kind_of, partner_of}
use Rattle.row.proofs.put_ending.Goals as goal

pub returns : goal.returns
returns c =
    let a = c.args in
    let k = rw c.kind_of.ensures at c.put.ensures in
    let q = rw c.partner_of.ensures at c.put-2.ensures in
    next a.out.now a.at (le_bytes 1 (kind_of a.e)) (le_bytes 2 (partner_of a.e)) k q (simp le_length)
