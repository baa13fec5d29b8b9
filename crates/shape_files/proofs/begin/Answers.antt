-- The box of the passages' points, in the header.
use native.Mathlib.Omega.{arith}
use Rattle.shape_records.proofs.Contents.{extent_sound}
use Rattle.shape_files.proofs.begin.Goals as goal

pub put_header-requires : goal.put_header-requires
put_header-requires c =
    let b = c.bounds_of.ensures in
    (omega arith, rw b.0 (extent_sound _ b.1))
