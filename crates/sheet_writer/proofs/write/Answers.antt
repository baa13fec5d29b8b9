-- The ordered form is as long as the listed one; an accepted sheet has at most 256 records of each kind.
use mathlib.Core.Path.{sym, ◌∙◌}
use borrow.Author.Rules.{rules}
use native.Mathlib.Omega.{arith}
use Prim.Native.Nat.{◌≤◌}
use Rattle.sheet.specs.HandedIn.{handed_in}
use Rattle.sheet_encoding.proofs.Forms.{ordered-length}
use Rattle.sheet_writer.proofs.Counts.{few}
use Rattle.sheet_writer.proofs.Outcome.{as_checked, too_short, stored}
use Rattle.sheet_writer.proofs.write.Goals as goal

pub returns-in_err-needed-clause-returned : goal.returns-in_err-needed-clause-returned
returns-in_err-needed-clause-returned c =
    let f = as_checked c.args.sheet c.args.out.now _ _ (c.in_err-needed.ensures) in
    search rules

pub returns-in_err-needed-clause-left : goal.returns-in_err-needed-clause-left
returns-in_err-needed-clause-left c = (as_checked c.args.sheet c.args.out.now _ _ (c.in_err-needed.ensures)).1

pub returns-then-out-needed-clause-returned : goal.returns-then-out-needed-clause-returned
returns-then-out-needed-clause-returned c =
    let j = c.in_ok-needed.ensures in
    (too_short c.args.sheet c.args.out.now j.0 (ordered-length (handed_in c.args.sheet) ∙ sym j.1) c.if-out-needed.true).0

pub returns-then-out-needed-clause-left : goal.returns-then-out-needed-clause-left
returns-then-out-needed-clause-left c =
    let j = c.in_ok-needed.ensures in
    (too_short c.args.sheet c.args.out.now j.0 (ordered-length (handed_in c.args.sheet) ∙ sym j.1) c.if-out-needed.true).1

pub order-requires : goal.order-requires
order-requires c =
    let j = c.in_ok-needed.ensures in
    let counts : (c.args.sheet.ntracks ≤ 256) × (c.args.sheet.nwalls ≤ 256) =
    let s = c.args.sheet in
    few s (search rules) (search rules) j.0 in
    (counts, omega (arith, ordered-length (handed_in c.args.sheet), j.1, c.if-out-needed.false))

pub returns-clause-returned : goal.returns-clause-returned
returns-clause-returned c =
    let j = c.in_ok-needed.ensures in
    (stored c.args.sheet c.args.out.now j.0 (ordered-length (handed_in c.args.sheet) ∙ sym j.1) c.if-out-needed.false c.order.ensures).0

pub returns-clause-left : goal.returns-clause-left
returns-clause-left c =
    let j = c.in_ok-needed.ensures in
    (stored c.args.sheet c.args.out.now j.0 (ordered-length (handed_in c.args.sheet) ∙ sym j.1) c.if-out-needed.false c.order.ensures).1
