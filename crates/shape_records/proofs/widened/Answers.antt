-- By one point, by two or by none.
use Rattle.shape_records.specs.Shapes.{widen}
use mathlib.Core.Path.{refl, sym, ◌∙◌}
use Rattle.shape_records.proofs.widened.Goals as goal

pub returns-in-End : goal.returns-in-End
unfolding widen
returns-in-End c = rw c.in-End.is c.widened_to.ensures

pub returns-then-is_still : goal.returns-then-is_still
unfolding widen
returns-then-is_still c = rw c.in-Trace.is (rw (sym c.is_still.ensures ∙ c.if-is_still.true) refl)

pub returns-else-is_still : goal.returns-else-is_still
unfolding widen
returns-else-is_still c = rw c.in-Trace.is (rw (sym c.is_still.ensures ∙ c.if-is_still.false) (rw c.widened_to-first.ensures at c.widened_to-else-is_still.ensures))
