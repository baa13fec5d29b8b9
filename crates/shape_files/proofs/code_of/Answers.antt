-- The type of each layer.
use mathlib.Core.Path.{refl}
use Rattle.shapefile.specs.Files.{type_of}
use Rattle.shape_files.proofs.code_of.Goals as goal

pub returns-in-Ends : goal.returns-in-Ends
unfolding type_of
returns-in-Ends c = rw c.in-Ends.is refl

pub returns-in-Traces : goal.returns-in-Traces
unfolding type_of
returns-in-Traces c = rw c.in-Traces.is refl
