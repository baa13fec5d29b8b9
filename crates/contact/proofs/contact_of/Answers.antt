-- `contact_of` meets its contract.
use mathlib.Core.Path.{refl, sym, ◌∙◌}
use Rattle.contact.proofs.Answers.{pair_young, moved_timely, ordered_none, ordered_yes, ordered_no}
use Rattle.contact.proofs.Lines.{contact_is}
use Rattle.contact.proofs.contact_of.Goals as goal

pub returns-in_err-age : goal.returns-in_err-age
returns-in_err-age c =
    rw c.from_residual.ensures (ordered_none _ _ c.in_err-age.was c.ages_of.ensures.0 ∙ contact_is _ _ refl, tt, tt)

pub returns-then-not_later : goal.returns-then-not_later
returns-then-not_later c =
    let e = c.in_ok-age.was in
    let y = c.ages_of.ensures.1 in
    let (h, k) = pair_young e y in
    let (p, q) = c.requires in
    let a = moved_timely _ h p.start_in c.later-at.ensures in
    let b = moved_timely _ k q.start_in c.later-there.ensures in
    (ordered_yes _ _ e c.ages_of.ensures.0 y c.later-at.ensures c.later-there.ensures a b (sym c.not_later.ensures ∙ c.if-not_later.true) ∙ contact_is _ _ refl, (a, b), c.track_side-side.ensures)

pub returns : goal.returns
returns c =
    let e = c.in_ok-age.was in
    let y = c.ages_of.ensures.1 in
    let (h, k) = pair_young e y in
    let (p, q) = c.requires in
    let a = moved_timely _ h p.start_in c.later-at.ensures in
    let b = moved_timely _ k q.start_in c.later-there.ensures in
    (ordered_no _ _ e c.ages_of.ensures.0 y c.later-at.ensures c.later-there.ensures a b (sym c.not_later.ensures ∙ c.if-not_later.false) ∙ contact_is _ _ refl, tt, tt)
