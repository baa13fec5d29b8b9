-- The sheet is judged first, then the session.
use borrow.Author.Rules.{rules}
use Rattle.c_sessions.proofs.Stepped.{not_accepted, short, enough}
use Rattle.c_sessions.proofs.judged.Goals as goal

pub returns-in_err-sheet : goal.returns-in_err-sheet
returns-in_err-sheet c = let h = not_accepted c.args.s.now c.args.session.now c.in_err-sheet.ensures in search rules

pub returns-then-session-lt-SIZE : goal.returns-then-session-lt-SIZE
returns-then-session-lt-SIZE c = short c.args.s.now c.args.session.now c.in_ok-sheet.ensures.accepts c.if-session-lt-SIZE.true

pub returns : goal.returns
returns c =
    let q = c.in_ok-sheet.ensures in
    record { accepts = enough c.args.s.now c.args.session.now q.accepts c.if-session-lt-SIZE.false; handed = q.handed; same = q.same }
