-- The greatest number and 0, as doubles.
use mathlib.Core.Path.{refl}
use Rattle.shape_records.specs.Shapes.{bounds_of}
use Rattle.shape_files.proofs.no_bounds.Goals as goal

pub returns : goal.returns
unfolding bounds_of
returns c = rw (c.double_of-top.ensures, c.double_of-zero.ensures) refl
