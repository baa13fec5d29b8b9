-- `pop` gives nothing where the heap is empty.
use Rattle.event_queue.proofs.Operations.{popped_none}
use Rattle.event_queue.proofs.Queue.pop.Goals as goal

pub returns-then-self-eq0 : goal.returns-then-self-eq0
returns-then-self-eq0 c = rw (← c.self.view_is) (popped_none c.self.inside.heap c.self.invariant c.if-self-eq0.true)
