-- `later` meets its contract.
use mathlib.Core.Path.{refl, sym, ◌∙◌}
use Rattle.cell_walk.specs.Onsets.{later_of}
use Rattle.cell_walk.proofs.later.Goals as goal

pub returns-then-prior : goal.returns-then-prior
unfolding later_of
returns-then-prior c = let e = sym c.prior.ensures ∙ c.if-prior.true in rw e refl

pub returns-else-prior : goal.returns-else-prior
unfolding later_of
returns-else-prior c = let e = sym c.prior.ensures ∙ c.if-prior.false in rw e refl
