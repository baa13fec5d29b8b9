-- The sheet is judged first, then the session.
use borrow.Author.Rules.{rules}
use native.Mathlib.Omega.{arith}
use mathlib.Core.Path.{ap}
use lib.ListN.{get_or}
use Rattle.session.specs.declared.Session.{Session}
use Rattle.session.proofs.Outcome.{opened_over}
use Rattle.fissures_c.proofs.Stepped.{not_taken, short, taken}
use Rattle.fissures_c.proofs.take.Goals as goal

pub returns-in_err-opened : goal.returns-in_err-opened
returns-in_err-opened c = let h = not_taken c.args.s.now c.args.session.now c.in_err-opened.ensures.0 in search rules

pub returns-then-session-lt-SESSION : goal.returns-then-session-lt-SESSION
returns-then-session-lt-SESSION c = short c.args.s.now c.args.session.now c.in_ok-opened.ensures.0 c.if-session-lt-SESSION.true

pub returns : goal.returns
returns c =
    let z = c.args in
    let q = c.in_ok-opened.ensures in
    (taken z.s.now z.session.now q.0 (omega (arith, c.if-session-lt-SESSION.false)), ap {B = Session} (λ (t : Session). record { sheet = t.sheet; shown = get_or z.session.now 0 0 }) (opened_over z.s.now q.0 q.1))
