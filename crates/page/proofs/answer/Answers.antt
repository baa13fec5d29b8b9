-- The head and the lines of the rows read back, or the refusal.
use Prim.Native.Nat.{ℕ}
use native.Mathlib.Omega.{arith}
use lib.ListN.{length-replicate}
use Rattle.byte_order.proofs.Bytes.{slice_bytes}
use Rattle.rule.specs.RowBytes.{longest_roll}
use Rattle.page.proofs.Answered.{rows-read, as_refused, prints_roll, prints_refusal}
use Rattle.page.proofs.Putting.{and_behind, within}
use Rattle.page.proofs.answer.Goals as goal

pub put_rows-requires : goal.put_rows-requires
put_rows-requires c =
    let d = rows-read c.args.sheet.now (slice_bytes _ c.type_inv.sheet) (length-replicate {A = ℕ} longest_roll 0) c.grid_roll.ensures c.in-Ok.is in
    let h = c.put_head-at.ensures in
    omega (arith, d.few, h.1, c.requires, h.0.same)

pub returns-in-Ok : goal.returns-in-Ok
returns-in-Ok c =
    let d = rows-read c.args.sheet.now (slice_bytes _ c.type_inv.sheet) (length-replicate {A = ℕ} longest_roll 0) c.grid_roll.ensures c.in-Ok.is in
    let h = c.put_head-at.ensures.0 in
    let k = c.put_rows.ensures.0 in
    (prints_roll c.args.sheet.now d h k, within (and_behind h k))

pub returns-in-Err : goal.returns-in-Err
returns-in-Err c =
    let e = as_refused c.args.sheet.now (slice_bytes _ c.type_inv.sheet) (length-replicate {A = ℕ} longest_roll 0) c.grid_roll.ensures c.in-Err.is in
    let b = rw c.from.ensures at c.put_refusal.ensures in
    (prints_refusal c.args.sheet.now e b, within b)
