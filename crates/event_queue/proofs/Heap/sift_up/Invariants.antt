-- `sift_up` meets its contract.
use Rattle.event_queue.proofs.Sifts.{LiftedTo}
use Rattle.event_queue.proofs.Heap.sift_up.Given as goal

abbrev pub invariant-loop-i : goal.invariant-loop-i
invariant-loop-i l = LiftedTo l.initial.self l.self l.i

abbrev pub decreases-loop-i : goal.decreases-loop-i
decreases-loop-i l = l.i
