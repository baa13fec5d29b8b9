-- `least_child` meets its contract.
use Rattle.event_queue.proofs.Moves.{one_child, left_child, right_child}
use Rattle.event_queue.proofs.Heap.least_child.Goals as goal

pub returns-then-earlier : goal.returns-then-earlier
returns-then-earlier c = right_child _ _ _ c.args.i c.if-r-n.true (c.earlier.ensures.0 c.if-earlier.true)

pub returns-else-earlier : goal.returns-else-earlier
returns-else-earlier c = left_child _ _ _ c.args.i c.if-r-n.true (c.earlier.ensures.1 c.if-earlier.false)

pub returns-else-r-n : goal.returns-else-r-n
returns-else-r-n c = one_child _ _ _ c.args.i c.requires.1 c.if-r-n.false
