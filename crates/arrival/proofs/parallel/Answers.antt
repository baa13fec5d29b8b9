-- `parallel` meets its contract.
use mathlib.Core.Path.{sym, ◌∙◌}
use borrow.Author.Tests.{eqb-true, eqb-false}
use Rattle.rule.specs.Contact.{D}
use Rattle.contact.proofs.Tests.{zero_yes, zero_no}
use Rattle.arrival.proofs.parallel.Goals as goal

pub returns : goal.returns
unfolding D
returns c =
    let u = c.speed.ensures in
    let v = c.speed-2.ensures in
    let k = c.cross-d.ensures in
    let e = rw (u.0, u.1, v.0, v.1) at k.0 in
    (λ h. sym e ∙ zero_yes k.1 tt (eqb-true _ _ h), λ h z. zero_no _ (eqb-false _ _ h) (e ∙ z))
