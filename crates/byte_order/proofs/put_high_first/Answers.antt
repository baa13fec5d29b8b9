-- The bytes not yet stored, stored before those that are, make the whole field.
use native.Mathlib.Omega.{arith}
use mathlib.Core.Path.{◌≡◌, ◌∙◌}
use Rattle.byte_order.proofs.Orders.{be_more, be_none}
use lib.ListN.{length-set}
use Rattle.byte_order.proofs.put_high_first.Goals as goal

pub loop-i-preserved : goal.loop-i-preserved
loop-i-preserved c = (simp length-set (omega arith), be_more _ _ _ _ (omega arith) ∙ c.loop-i.invariant.1)

pub returns : goal.returns
returns c =
    let e : c.loop-i.i ≡ 0 = omega arith in
    rw (e, be_none) at c.loop-i.invariant.1
