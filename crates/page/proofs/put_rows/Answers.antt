-- Row by row.
use mathlib.Core.Path.{sym, ◌∙◌}
use native.Mathlib.Omega.{arith}
use Rattle.byte_order.proofs.Bytes.{slice_bytes}
use Rattle.row.proofs.ReadBack.{found-fits}
use Rattle.page.proofs.Putting.{no_rows_yet, one_row_more, no_row_more}
use Rattle.page.proofs.put_rows.Goals as goal

pub loop-k-init : goal.loop-k-init
loop-k-init c = (no_rows_yet _ _ _, omega arith)

pub loop-k-preserved-in_default : goal.loop-k-preserved-in_default
loop-k-preserved-in_default c =
    (no_row_more c.args.rows.now c.loop-k.k c.loop-k.invariant.0 c.row_at.ensures c.in_default.is, omega (arith, c.loop-k.invariant.1))

pub put_row-end-requires : goal.put_row-end-requires
put_row-end-requires c =
    let b = slice_bytes c.args.rows.now c.type_inv.rows in
    let e = sym c.row_at.ensures ∙ c.in-Some.is in
    (found-fits c.args.rows.now c.loop-k.k b e, omega (arith, c.requires, c.loop-k.invariant.1, c.loop-k.invariant.0.same, c.loop-k-test.true))

pub loop-k-preserved : goal.loop-k-preserved
loop-k-preserved c =
    let p = c.put_row-end.ensures in
    (one_row_more c.args.rows.now c.loop-k.k c.loop-k.invariant.0 c.row_at.ensures c.in-Some.is p.0, omega (arith, c.loop-k.invariant.1, p.1))
