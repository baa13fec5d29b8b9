-- One or the other.
use Rattle.shape_records.specs.Shapes.{greater}
use mathlib.Core.Path.{refl}
use Rattle.shape_records.proofs.greater_of.Goals as goal

pub returns-then-a-b : goal.returns-then-a-b
unfolding greater
returns-then-a-b c = rw c.if-a-b.true refl

pub returns-else-a-b : goal.returns-else-a-b
unfolding greater
returns-else-a-b c = rw c.if-a-b.false refl
