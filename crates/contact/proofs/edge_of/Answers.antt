-- `edge_of` meets its contract.
use mathlib.Core.Path.{refl, ◌∙◌}
use Rattle.contact.proofs.Answers.{was_none, was_some, open_none, open_at, moved_timely}
use Rattle.contact.proofs.Edge.{edge_late, edge_rim}
use Rattle.contact.proofs.edge_of.Goals as goal

pub returns-in_err-age : goal.returns-in_err-age
returns-in_err-age c =
    let e = open_none _ (was_none c.in_err-age.was refl) ∙ edge_late _ c.edge_age.ensures.0 in
    rw c.from_residual.ensures (e, tt, e ∙ edge_rim _ c.requires)

pub returns : goal.returns
returns c =
    let h = was_some c.in_ok-age.was refl c.edge_age.ensures.1 in
    let r = c.later.ensures in
    let e = open_at _ h r ∙ edge_late _ c.edge_age.ensures.0 in
    (e, moved_timely _ h.young c.requires.start_in r, e ∙ edge_rim _ c.requires)
