-- `sift_down` meets its contract.
use Prim.Native.Nat.{◌-◌}
use Rattle.event_queue.proofs.Sifts.{DroppedTo}
use Rattle.event_queue.proofs.Heap.sift_down.Given as goal

abbrev pub invariant-loop-i : goal.invariant-loop-i
invariant-loop-i l = DroppedTo l.initial.self l.self l.i

abbrev pub decreases-loop-i : goal.decreases-loop-i
decreases-loop-i l = l.n - l.i
