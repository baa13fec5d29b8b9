-- The records stored so far are those of the commands before `at`.
use Prim.Native.Nat.{◌-◌}
use lib.ListN.{length}
use Rattle.sheet_reader.proofs.Loading.{Loaded}
use Rattle.sheet_reader.proofs.load.Given as goal

abbrev pub invariant-loop-at : goal.invariant-loop-at
invariant-loop-at l = Loaded l.s l.at l.sheet

abbrev pub decreases-loop-at : goal.decreases-loop-at
decreases-loop-at l = length l.s - l.at
