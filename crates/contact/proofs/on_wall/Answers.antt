-- `on_wall` meets its contract.
use mathlib.Core.Path.{sym, ◌∙◌}
use Rattle.contact.proofs.Answers.{pair_young, struck_none, struck_yes, struck_no}
use Rattle.contact.proofs.on_wall.Goals as goal

pub returns-in_err-t : goal.returns-in_err-t
returns-in_err-t c = rw c.from_residual.ensures (struck_none c.in_err-t.was, tt)

pub returns-then-not_later : goal.returns-then-not_later
returns-then-not_later c =
    let e = c.in_ok-t.was in
    (struck_yes e c.requires (sym c.not_later.ensures ∙ c.if-not_later.true), (pair_young e c.requires).0)

pub returns-else-not_later : goal.returns-else-not_later
returns-else-not_later c = (struck_no c.in_ok-t.was c.requires (sym c.not_later.ensures ∙ c.if-not_later.false), tt)
