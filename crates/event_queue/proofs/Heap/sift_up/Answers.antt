-- `sift_up` meets its contract.
use native.Mathlib.Omega.{arith}
use mathlib.Core.Path.{refl}
use Rattle.event_queue.specs.Bag.{parent}
use Rattle.event_queue.proofs.Sifts.{exchange, lift_known, lift_on}
use Rattle.event_queue.proofs.Heap.sift_up.Goals as goal

pub earlier-requires : goal.earlier-requires
earlier-requires c =
    let l = c.loop-i.invariant in (
      lift_known c.args.self.now _ _ l c.loop-i.i l.lifting.up.place,
      lift_known c.args.self.now _ _ l (parent c.loop-i.i) (omega (arith, l.lifting.up.place)),
    )

pub loop-i-preserved : goal.loop-i-preserved
loop-i-preserved c =
    lift_on c.args.self.now _ _ c.loop-i.invariant _ c.loop-i-test.true (c.earlier.ensures.0 c.if-earlier.true)
    (exchange _ (parent c.loop-i.i) c.loop-i.i _ _ refl refl _ _ c.stand.ensures c.stand-then-earlier.ensures)
