-- `reach` ends the tip at i, or lets it look again.
use mathlib.Core.Path.{refl, sym, ◌∙◌}
use Rattle.grid_turn.specs.Reached.{ended}
use Rattle.grid_turn.proofs.reach.Goals as goal

pub returns-clause-reached : goal.returns-clause-reached
returns-clause-reached c =
    ended (sym c.stale.ensures ∙ c.if-stale.false) c.by_track-ending.result c.by_track-ending.ensures c.end_tip.ensures.1 refl c.end_tip.ensures.0
