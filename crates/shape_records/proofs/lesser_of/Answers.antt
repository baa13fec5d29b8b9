-- One or the other.
use Rattle.shape_records.specs.Shapes.{lesser}
use mathlib.Core.Path.{refl}
use Rattle.shape_records.proofs.lesser_of.Goals as goal

pub returns-then-b-a : goal.returns-then-b-a
unfolding lesser
returns-then-b-a c = rw c.if-b-a.true refl

pub returns-else-b-a : goal.returns-else-b-a
unfolding lesser
returns-else-b-a c = rw c.if-b-a.false refl
