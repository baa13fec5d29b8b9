-- The records counted and those left are all of them.
use Rattle.shape_files.proofs.Run.{rest}
use Prim.Native.Nat.{◌≤◌, ◌+◌, ◌*◌}
use mathlib.Core.Path.{◌≡◌}
use lib.ListN.{length}
use Rattle.shape_files.proofs.size_of.Given as goal

abbrev pub invariant-loop-p : goal.invariant-loop-p
invariant-loop-p l = (l.total ≤ 88 * l.p-index) × (l.total + length (rest l.layer l.passages l.p-index) ≡ length (rest l.layer l.passages 0))
