-- Each way out by one law.
use borrow.Author.Rules.{rules}
use native.Mathlib.Omega.{arith}
use lib.ListN.{length, drop}
use Rattle.sheet.specs.Returned.{gives}
use Rattle.c_sessions.specs.Steps.{shown, roll_of_bytes}
use Rattle.c_sessions.proofs.Stepped.{fits, refused-gives, running}
use Rattle.c_sessions.proofs.left.Goals as goal

pub returns-in_err-sheet : goal.returns-in_err-sheet
returns-in_err-sheet c =
    let z = c.args in
    let h = refused-gives z.s.now z.session.now (gives (length (drop (shown z.session.now) (roll_of_bytes z.s.now)))) c.in_err-sheet.ensures in
    search rules

pub bounds-session-0 : goal.bounds-session-0
bounds-session-0 c = let f = fits c.args.s.now c.args.session.now c.in_ok-sheet.ensures.accepts in omega (arith, f.room)

pub returns : goal.returns
returns c = running c.args.s.now c.args.session.now c.in_ok-sheet.ensures c.left-left.ensures
