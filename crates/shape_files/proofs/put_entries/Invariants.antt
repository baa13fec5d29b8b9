-- The entries not yet stored, stored behind those that are, are all entries.
use Rattle.shape_files.proofs.Run.{left_over}
use lib.Seq.{sets}
use Prim.Native.Nat.{◌≤◌, ◌+◌, ◌*◌}
use mathlib.Core.Path.{◌≡◌}
use lib.ListN.{length}
use Rattle.shape_files.proofs.put_entries.Given as goal

abbrev pub invariant-loop-i : goal.invariant-loop-i
invariant-loop-i l = (length l.out ≡ length l.initial.out) × (l.offset ≤ 50 + 44 * l.i) × (sets l.out (100 + 8 * l.i) (left_over l.layer l.passages l.offset l.i) ≡ sets l.initial.out 100 (left_over l.layer l.passages 50 0))
