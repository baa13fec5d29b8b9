-- The box so far, of the points so far.
use Rattle.shapefile.specs.Extent.{widest}
use Rattle.shape_records.specs.Shapes.{bounds_of}
use Rattle.shape_files.proofs.Closed.{Narrows}
use Rattle.shape_files.specs.Boxing.{inverted}
use Rattle.shape_files.proofs.Run.{so_far}
use mathlib.Core.Path.{◌≡◌}
use Rattle.shape_files.proofs.bounds_of.Given as goal

abbrev pub invariant-loop-p : goal.invariant-loop-p
invariant-loop-p l = Narrows (so_far l.layer l.passages l.p-index) × (l.b ≡ bounds_of (widest inverted (so_far l.layer l.passages l.p-index)))
