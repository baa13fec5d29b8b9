-- `wall_of` meets its contract.
use mathlib.Core.Path.{refl, ◌∙◌}
use Rattle.contact.proofs.Answers.{was_none, was_some, open_none, open_at, moved_timely}
use Rattle.contact.proofs.Lines.{wall_is}
use Rattle.contact.proofs.wall_of.Goals as goal

pub returns-in_err-age : goal.returns-in_err-age
returns-in_err-age c =
    rw c.from_residual.ensures (open_none _ (was_none c.in_err-age.was refl) ∙ wall_is _ _ c.wall_age.ensures.0, tt, tt)

pub returns : goal.returns
returns c =
    let h = was_some c.in_ok-age.was refl c.wall_age.ensures.1 in
    let r = c.later-at.ensures in
    (open_at _ h r ∙ wall_is _ _ c.wall_age.ensures.0, moved_timely _ h.young c.requires.0.start_in r, c.wall_side-side.ensures)
