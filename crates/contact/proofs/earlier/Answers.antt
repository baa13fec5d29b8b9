-- `earlier` meets its contract.
use mathlib.Core.Path.{refl, sym, ◌∙◌}
use Rattle.contact.proofs.Answers.{was_none, was_some}
use Rattle.contact.proofs.TwoTimes.{earlier-first, earlier_second, earlier_yes, earlier_no}
use Rattle.contact.proofs.earlier.Goals as goal

pub returns-in_default : goal.returns-in_default
returns-in_default c = (earlier-first _ _ (was_none c.in_default.is refl), c.requires.1)

pub returns-in_default-b : goal.returns-in_default-b
returns-in_default-b c =
    let h = was_some c.in-Some.is refl c.requires.0 in
    (earlier_second _ _ h (was_none c.in_default-b.is refl), h.young)

pub returns-then-not_later : goal.returns-then-not_later
returns-then-not_later c =
    let p = c.requires in
    let h = was_some c.in-Some.is refl p.0 in
    let k = was_some c.in-Some-b.is refl p.1 in
    (earlier_yes _ _ h k (sym c.not_later.ensures ∙ c.if-not_later.true), h.young)

pub returns : goal.returns
returns c =
    let p = c.requires in
    let h = was_some c.in-Some.is refl p.0 in
    let k = was_some c.in-Some-b.is refl p.1 in
    (earlier_no _ _ h k (sym c.not_later.ensures ∙ c.if-not_later.false), k.young)
