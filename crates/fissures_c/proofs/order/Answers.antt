-- Reading, then writing: each way out by one law.
use borrow.Author.Rules.{rules}
use mathlib.Core.Path.{◌∙◌}
use Rattle.byte_order.proofs.Bytes.{slice_bytes}
use Rattle.fissures_c.proofs.Reached.{not-read, as_written}
use Rattle.fissures_c.proofs.order.Goals as goal

pub returns-in_err-sheet-clause-returned : goal.returns-in_err-sheet-clause-returned
returns-in_err-sheet-clause-returned c = let h = (not-read c.args.s.now c.args.out.now c.in_err-sheet.ensures).0 in search rules

pub returns-in_err-sheet-clause-left : goal.returns-in_err-sheet-clause-left
returns-in_err-sheet-clause-left c = (not-read c.args.s.now c.args.out.now c.in_err-sheet.ensures).1

pub returns : goal.returns
returns c =
    let z = c.args in
    let j = c.in_ok-sheet.ensures in
    let q = as_written z.s.now z.out.now (slice_bytes z.s.now c.type_inv.s) j.0 j.1 in
    record { returned = c.write.ensures.returned ∙ q.0; left = c.write.ensures.left ∙ q.1 }
