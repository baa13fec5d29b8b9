-- The records not yet stored, stored behind those that are, are all records.
use lib.Seq.{sets}
use Rattle.shape_files.proofs.Run.{rest}
use Prim.Native.Nat.{◌+◌}
use mathlib.Core.Path.{◌≡◌}
use lib.ListN.{length}
use Rattle.shape_files.proofs.put_records.Given as goal

abbrev pub invariant-loop-i : goal.invariant-loop-i
invariant-loop-i l = (length l.out ≡ length l.initial.out) × (l.at + length (rest l.layer l.passages l.i) ≡ 100 + length (rest l.layer l.passages 0)) × (sets l.out l.at (rest l.layer l.passages l.i) ≡ sets l.initial.out 100 (rest l.layer l.passages 0))
