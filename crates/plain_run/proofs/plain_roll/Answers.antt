-- `plain_roll` refuses as its sheet is refused.
use borrow.Author.Rules.{rules}
use Rattle.plain_run.proofs.Outcome.{as_refused}
use Rattle.plain_run.proofs.plain_roll.Goals as goal

pub returns-in_err-sheet : goal.returns-in_err-sheet
returns-in_err-sheet g c =
    let f = as_refused (g.S.Source.records c.args.from) c.args.out.now _ c.in_err-sheet.ensures in
    search rules
