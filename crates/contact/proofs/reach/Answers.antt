-- `reach` meets its contract.
use mathlib.Core.Path.{sym, ◌∙◌}
use mir.Syntax.{w64}
use Rattle.fraction.proofs.Bounds.{back}
use Rattle.contact.proofs.Tests.{zero_yes, zero_no}
use Rattle.contact.proofs.Answers.{asked}
use Rattle.contact.proofs.Lines.{gone-off, gone-x, gone-y}
use Rattle.contact.proofs.reach.Goals as goal

pub returns-then-cross-ne0 : goal.returns-then-cross-ne0
returns-then-cross-ne0 c = (gone-off _ _ _ _ (λ z. zero_no _ c.if-cross-ne0.true (c.cross.ensures.0 ∙ z)), tt)

pub returns-then-v-eq0 : goal.returns-then-v-eq0
returns-then-v-eq0 c =
    let d = c.args.d in
    let v = c.args.v in
    let m = c.cross.ensures in
    let z = sym m.0 ∙ zero_yes m.1 tt c.if-cross-ne0.false in
    let r = c.quotient.ensures in
    (asked (back w64 d.y_in tt) (back w64 v.y_in tt) c.quotient.result r.0 ∙ gone-y _ _ _ _ z (zero_yes v.x_in tt c.if-v-eq0.true), r.1)

pub returns-else-v-eq0 : goal.returns-else-v-eq0
returns-else-v-eq0 c =
    let d = c.args.d in
    let v = c.args.v in
    let m = c.cross.ensures in
    let z = sym m.0 ∙ zero_yes m.1 tt c.if-cross-ne0.false in
    let r = c.quotient-else-v-eq0.ensures in
    (asked (back w64 d.x_in tt) (back w64 v.x_in tt) c.quotient-else-v-eq0.result r.0 ∙ gone-x _ _ _ _ z (zero_no _ c.if-v-eq0.false), r.1)
