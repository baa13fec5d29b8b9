-- `reset` judges the sheet, and begins again or leaves the session.
use borrow.Author.Rules.{rules}
use mathlib.Core.Path.{sym, ap, ◌∙◌}
use Rattle.sheet.specs.Returned.{verdict}
use Rattle.session.proofs.Outcome.{restarted, as_it_was}
use Rattle.session.proofs.Session.reset.Goals as goal

pub returns-in_err-check : goal.returns-in_err-check
returns-in_err-check c =
    let f = as_it_was c.args.self.now _ (sym c.check.ensures ∙ ap verdict c.in_err-check.was) in
    search rules

pub returns : goal.returns
returns c = restarted c.args.self.now (sym c.check.ensures ∙ ap verdict c.in_ok-check.was)
