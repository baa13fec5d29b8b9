-- `sooner` meets its contract.
use mathlib.Core.Path.{refl, sym, ◌∙◌}
use Rattle.cell_walk.specs.Onsets.{sooner_of}
use Rattle.cell_walk.proofs.sooner.Goals as goal

pub returns-then-prior : goal.returns-then-prior
unfolding sooner_of
returns-then-prior c = let e = sym c.prior.ensures ∙ c.if-prior.true in rw e refl

pub returns-else-prior : goal.returns-else-prior
unfolding sooner_of
returns-else-prior c = let e = sym c.prior.ensures ∙ c.if-prior.false in rw e refl
