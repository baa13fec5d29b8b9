-- Each side.
use Rattle.shape_records.specs.Shapes.{around}
use mathlib.Core.Path.{refl}
use Rattle.shape_records.proofs.widened_to.Goals as goal

pub returns : goal.returns
unfolding around
returns c = rw (c.lesser_of.ensures, c.lesser_of-2.ensures, c.greater_of.ensures, c.greater_of-2.ensures) refl
