-- Zeros where the box is still inside out.
use Rattle.shape_files.specs.Boxing.{closed}
use mathlib.Core.Path.{refl}
use Rattle.shape_records.specs.Shapes.{bounds_of}
use Rattle.shape_files.proofs.closed_bounds.Goals as goal

pub returns-then-b : goal.returns-then-b
unfolding closed bounds_of
returns-then-b c = rw (c.if-b.true, c.double_of-zero.ensures) refl

pub returns : goal.returns
unfolding closed
returns c = rw c.if-b.false refl
