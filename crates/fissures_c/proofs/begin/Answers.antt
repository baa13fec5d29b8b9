-- Each way out by one law.
use borrow.Author.Rules.{rules}
use native.Mathlib.Omega.{arith}
use mathlib.Core.List.{[], ◌∷◌}
use Rattle.sheet.specs.Returned.{gives}
use Rattle.fissures_c.proofs.Stepped.{fits, refused-gives, refused-leaves, started}
use Rattle.fissures_c.proofs.begin.Goals as goal

pub returns-in_err-take-clause-returned : goal.returns-in_err-take-clause-returned
returns-in_err-take-clause-returned c = let h = refused-gives c.args.s.now c.args.session.now (gives 0) c.in_err-take.ensures in search rules

pub returns-in_err-take-clause-held : goal.returns-in_err-take-clause-held
returns-in_err-take-clause-held c = refused-leaves c.args.s.now c.args.session.now (gives 0) c.in_err-take.ensures (0 ∷ []) c.args.session.now

pub bounds-session-0 : goal.bounds-session-0
bounds-session-0 c = let f = fits c.args.s.now c.args.session.now c.in_ok-take.ensures.0 in omega (arith, f.room)

pub returns : goal.returns
returns c = let h = started c.args.s.now c.args.session.now c.in_ok-take.ensures.0 in record { returned = h.0; held = h.1 }
