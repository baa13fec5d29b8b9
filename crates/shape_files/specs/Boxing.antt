-- The box as the loop widens it. Nobody need believe this file: `closed_is` in proofs/Closed.antt shows that it ends as the box of SHEETS 12.6.
use Rattle.std.specs.Prelude.{cond}
use Rattle.std.specs.Float.Ieee.{lt}
use Rattle.shapefile.specs.Extent.{Extent}
use Rattle.shape_records.specs.declared.Bounds.{Bounds}
use Rattle.shape_records.specs.Shapes.{bounds_of}

-- inside out: any point makes it the box of that point
abbrev pub inverted : Extent
inverted = record { left = 4294967295; low = 4294967295; right = 0; high = 0 }

abbrev pub zeros : Extent
zeros = record { left = 0; low = 0; right = 0; high = 0 }

-- zeros where no point has come (SHEETS 12.6)
unfoldable pub closed : Bounds → Bounds
closed b = cond (lt b.right b.left) (bounds_of zeros) b
