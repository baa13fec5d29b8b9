-- `sift_down` meets its contract.
use mathlib.Core.Path.{refl}
use Rattle.event_queue.proofs.Sifts.{exchange, drop_on, drop-ends}
use Rattle.event_queue.proofs.Heap.sift_down.Goals as goal

pub loop-i-preserved : goal.loop-i-preserved
loop-i-preserved c =
    drop_on c.args.self.now _ _ c.loop-i.invariant _ c.least_child-c.ensures _ (c.earlier.ensures.0 c.if-earlier.true)
    (exchange _ c.loop-i.i _ _ _ refl refl _ _ c.stand.ensures c.stand-then-earlier.ensures)

pub returns-else-earlier : goal.returns-else-earlier
returns-else-earlier c =
    drop-ends c.args.self.now _ _ c.loop-i.invariant _ c.least_child-c.ensures (c.earlier.ensures.1 c.if-earlier.false)
