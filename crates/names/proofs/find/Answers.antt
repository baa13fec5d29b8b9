-- What is found from the place reached on is what is found in the whole list.
use native.Mathlib.Omega.{arith}
use mathlib.Core.Path.{refl, sym, ◌∙◌}
use Rattle.names.proofs.Search.{from_start, cut_short, hit, miss}
use Rattle.names.proofs.find.Goals as goal

pub loop-at-init : goal.loop-at-init
loop-at-init c = (omega arith, from_start _ _)

pub returns-then-list-start : goal.returns-then-list-start
returns-then-list-start c =
    let l = c.loop-at in
    sym (cut_short _ _ _ _ c.get-size.ensures.0 (omega arith)) ∙ l.invariant.1

pub returns-then-get16-id : goal.returns-then-get16-id
returns-then-get16-id c =
    let l = c.loop-at in
    let size = c.get-size.ensures.0 in
    sym (hit _ _ _ _ size (omega arith) (sym c.get16.ensures ∙ c.if-get16-id.true)) ∙ l.invariant.1

pub loop-at-preserved : goal.loop-at-preserved
loop-at-preserved c =
    let l = c.loop-at in
    let size = c.get-size.ensures.0 in
    (omega arith, sym (miss _ _ _ _ size (omega arith) (λ e. c.if-get16-id.false (c.get16.ensures ∙ e))) ∙ l.invariant.1)

pub returns : goal.returns
returns c = sym (cut_short _ _ _ _ refl (omega arith)) ∙ c.loop-at.invariant.1
