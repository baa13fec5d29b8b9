-- `rows` rolls an accepted sheet, or returns 12.
use Rattle.plain_run.proofs.Outcome.{too_short, all-rows}
use Rattle.plain_run.proofs.rows.Goals as goal

pub returns-then-out-needed : goal.returns-then-out-needed
returns-then-out-needed c = too_short c.requires c.args.out.now c.if-out-needed.true

pub returns : goal.returns
returns c = all-rows c.requires c.args.out.now c.if-out-needed.false c.roll.ensures
