-- Each way out by one law.
use Prim.Native.Nat.{ℕ}
use mathlib.Core.Path.{sym, subst}
use lib.ListN.{length}
use Rattle.sheet.specs.declared.Sheet.{Sheet}
use Rattle.sheet.specs.HandedIn.{handed_in}
use Rattle.records.specs.Records.{Handed}
use Rattle.rule.specs.Selection.{roll_of}
use Rattle.cursor.specs.declared.NextRows.{NextRows}
use Rattle.cursor.specs.Cursor.{Passes}
use Rattle.roll_steps.proofs.Outcome.{every_row, too_short, steps_on}
use Rattle.roll_steps.proofs.advance.Goals as goal

-- the step through the roll, which has a row for each track
passes : {s : Sheet} → Handed s → {shown n : ℕ} {r : NextRows} → Passes s.ntracks shown n r → Passes (length (roll_of (handed_in s))) shown n r
passes h {shown} {n} {r} = subst (λ (k : ℕ). Passes k shown n r) (sym (every_row h))

pub returns-then-out-needed : goal.returns-then-out-needed
returns-then-out-needed c =
    let z = c.args in
    too_short (roll_of (handed_in z.sheet)) z.shown z.n z.out.now (passes c.requires c.step-step.ensures) c.if-out-needed.true

pub returns : goal.returns
returns c =
    let z = c.args in
    steps_on (roll_of (handed_in z.sheet)) z.shown z.n z.out.now (passes c.requires c.step-step.ensures) c.if-out-needed.false c.put_rows.ensures
