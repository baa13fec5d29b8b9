-- Each coordinate as a double; 32 bits are within what doubles hold.
use Rattle.shapefile.specs.Files.{figure}
use mathlib.Core.Path.{refl}
use Rattle.shape_records.specs.Shapes.{in_doubles, NarrowFigure}
use native.Mathlib.Omega.{arith}
use Rattle.shape_files.proofs.shape_of.Goals as goal

pub returns-in-Ends : goal.returns-in-Ends
unfolding figure in_doubles NarrowFigure
returns-in-Ends c = rw (c.in-Ends.is, c.double_of-u.ensures, c.double_of-v.ensures) (refl, (omega arith, omega arith))

pub returns-in-Traces : goal.returns-in-Traces
unfolding figure in_doubles NarrowFigure
returns-in-Traces c = rw (c.in-Traces.is, c.double_of-u.ensures, c.double_of-v.ensures, c.double_of-x.ensures, c.double_of-y.ensures) (refl, ((omega arith, omega arith), (omega arith, omega arith)))
