-- Each way out by one law.
use borrow.Author.Rules.{rules}
use Rattle.sheet.specs.Returned.{gives}
use Rattle.c_sessions.specs.Steps.{numbers_at}
use Rattle.c_sessions.proofs.Stepped.{fits, refused-gives, refused-leaves, started}
use Rattle.c_sessions.proofs.begin.Goals as goal

pub returns-in_err-sheet-clause-returned : goal.returns-in_err-sheet-clause-returned
returns-in_err-sheet-clause-returned c = let h = refused-gives c.args.s.now c.args.session.now (gives 0) c.in_err-sheet.ensures in search rules

pub returns-in_err-sheet-clause-held : goal.returns-in_err-sheet-clause-held
returns-in_err-sheet-clause-held c = refused-leaves c.args.s.now c.args.session.now (gives 0) c.in_err-sheet.ensures (numbers_at c.args.s.now 0) c.args.session.now

pub store-requires : goal.store-requires
store-requires c = (fits c.args.s.now c.args.session.now c.in_ok-sheet.ensures.accepts).room

pub returns : goal.returns
returns c = let h = started c.args.s.now c.args.session.now c.in_ok-sheet.ensures c.store.ensures in record { returned = h.0; held = h.1 }
