-- The lines of the rows read back and the number behind them, or the refusal.
use Rattle.std.proofs.Common.{ℕ, ◌*◌, arith}
use lib.ListN.{length-replicate}
use Rattle.byte_order.proofs.Bytes.{slice_bytes}
use Rattle.rule.specs.RowBytes.{row_width}
use Rattle.page.proofs.Putting.{and_behind, within}
use Rattle.bulletin.proofs.Told.{rows-read, as_refused, tells, tells_refusal}
use Rattle.bulletin.proofs.bulletin.Goals as goal

pub put_rows-at-requires : goal.put_rows-at-requires
put_rows-at-requires c =
    let bytes = slice_bytes c.args.sheet.now c.type_inv.sheet in
    let d = rows-read c.args.sheet.now bytes (length-replicate {A = ℕ} (3 * row_width) 0) c.first_rows-shown.ensures c.in-Ok.is in
    omega (arith, d.few, c.requires)

pub put_running-requires : goal.put_running-requires
put_running-requires c =
    let bytes = slice_bytes c.args.sheet.now c.type_inv.sheet in
    let d = rows-read c.args.sheet.now bytes (length-replicate {A = ℕ} (3 * row_width) 0) c.first_rows-shown.ensures c.in-Ok.is in
    let h = c.put_rows-at.ensures in
    omega (arith, d.few, h.1, h.0.same, c.requires)

pub returns-in-Ok : goal.returns-in-Ok
returns-in-Ok c =
    let bytes = slice_bytes c.args.sheet.now c.type_inv.sheet in
    let d = rows-read c.args.sheet.now bytes (length-replicate {A = ℕ} (3 * row_width) 0) c.first_rows-shown.ensures c.in-Ok.is in
    let h = c.put_rows-at.ensures.0 in
    let k = c.put_running.ensures in
    (tells c.args.sheet.now bytes d h k, within (and_behind h k))

pub returns-in-Err : goal.returns-in-Err
returns-in-Err c =
    let bytes = slice_bytes c.args.sheet.now c.type_inv.sheet in
    let e = as_refused c.args.sheet.now bytes (length-replicate {A = ℕ} (3 * row_width) 0) c.first_rows-shown.ensures c.in-Err.is in
    let k = rw c.from.ensures at c.put_refusal.ensures in
    (tells_refusal c.args.sheet.now bytes e k, within k)
