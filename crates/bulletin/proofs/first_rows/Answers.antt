-- Each way out by one law: the session just opened advances, or the sheet is refused.
use Rattle.byte_order.proofs.Bytes.{slice_bytes}
use Rattle.bulletin.proofs.Shown.{not_opened, opened}
use Rattle.bulletin.proofs.first_rows.Goals as goal

pub returns-in-Ok : goal.returns-in-Ok
returns-in-Ok c =
    let z = c.args in
    let j = rw c.in-Ok.is at c.open.ensures in
    opened z.sheet.now z.n z.rows.now (slice_bytes z.sheet.now c.type_inv.sheet) j.0 j.1 c.advance-count.ensures

pub returns-in-Err : goal.returns-in-Err
returns-in-Err c =
    let j = rw c.in-Err.is at c.open.ensures in
    not_opened c.args.sheet.now c.args.n c.args.rows.now j.0 j.1
