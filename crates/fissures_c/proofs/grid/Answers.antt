-- The grid run's answer, and its count in its place.
use borrow.Author.Rules.{rules}
use mathlib.Core.Path.{sym, ap, ◌∙◌}
use Rattle.grid_run.specs.GridRolled.{grid_rolled}
use Rattle.fissures_c.proofs.Reached.{counted, not_counted}
use Rattle.fissures_c.proofs.grid.Goals as goal

pub returns-in_err-roll-clause-returned : goal.returns-in_err-roll-clause-returned
returns-in_err-roll-clause-returned c =
    let h = ap (λ z. z.returned) (sym (ap grid_rolled c.in_err-roll.was) ∙ c.grid_roll.ensures.answer) in
    search rules

pub returns-in_err-roll-clause-counted : goal.returns-in_err-roll-clause-counted
returns-in_err-roll-clause-counted c =
    not_counted _ c.args.cells.now (ap (λ z. z.returned) (sym (ap grid_rolled c.in_err-roll.was) ∙ c.grid_roll.ensures.answer))

pub returns-in_err-roll-clause-left : goal.returns-in_err-roll-clause-left
returns-in_err-roll-clause-left c = c.grid_roll.ensures.buffer

pub returns : goal.returns
returns c =
    let p = sym (ap grid_rolled c.in_ok-roll.was) ∙ c.grid_roll.ensures.answer in
    let t = ap (λ z. z.returned) p in
    record { returned = t; counted = counted _ c.args.cells.now t (ap (λ z. z.cells) p); left = c.grid_roll.ensures.buffer }
