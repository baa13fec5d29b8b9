-- `running` counts the rows not yet shown: an accepted sheet has a row for each of its tracks.
use borrow.Author.Rules.{rules}
use Rattle.session.proofs.Outcome.{every_row, runs_on, not_running}
use Rattle.session.proofs.Session.running.Goals as goal

pub returns-in_err-all : goal.returns-in_err-all
returns-in_err-all c =
    let f = not_running c.args.self.now _ c.in_err-all.ensures in
    search rules

pub returns : goal.returns
returns c =
    let h = c.in_ok-all.ensures in
    runs_on c.args.self.now h.accepts (every_row c.args.self.now h) c.min.ensures
