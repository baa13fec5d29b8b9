-- The verdict from `at` on, after the commands before it, is the verdict on the whole.
use Prim.Native.Nat.{◌-◌}
use lib.ListN.{length}
use Rattle.sheet_reader.proofs.Scanning.{Scanned}
use Rattle.sheet_reader.proofs.scan.Given as goal

abbrev pub invariant-loop-c : goal.invariant-loop-c
invariant-loop-c l = Scanned l.s l.at l.tracks l.walls

abbrev pub decreases-loop-c : goal.decreases-loop-c
decreases-loop-c l = length l.s - l.at
