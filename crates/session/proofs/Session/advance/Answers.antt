-- `advance` steps through the roll of an accepted sheet.
use borrow.Author.Rules.{rules}
use Rattle.session.proofs.Outcome.{sheet_refused, step_refused, step_on}
use Rattle.session.proofs.Session.advance.Goals as goal

pub returns-in_err-sheet : goal.returns-in_err-sheet
returns-in_err-sheet c =
    let f = sheet_refused c.args.self.now c.args.n c.args.out.now _ c.in_err-sheet.ensures in
    search rules

pub returns-in_err-step : goal.returns-in_err-step
returns-in_err-step c =
    let h = c.in_ok-sheet.ensures in
    let f = step_refused c.args.self.now c.args.n c.args.out.now h.accepts h.same c.advance.ensures _ c.in_err-step.was in
    search rules

pub returns : goal.returns
returns c =
    let h = c.in_ok-sheet.ensures in
    step_on c.args.self.now c.args.n c.args.out.now h.accepts h.same c.advance.ensures _ c.in_ok-step.was
