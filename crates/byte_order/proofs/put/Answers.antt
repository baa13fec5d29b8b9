-- The bytes not yet stored, stored behind those that are, make the whole field.
use native.Mathlib.Omega.{arith}
use Prim.Native.Nat.{◌-◌}
use mathlib.Core.Path.{◌≡◌, ◌∙◌}
use lib.ListN.{length-set}
use Rattle.byte_order.proofs.Stores.{put_more, le_none}
use Rattle.byte_order.proofs.put.Goals as goal

pub loop-i-preserved : goal.loop-i-preserved
loop-i-preserved c = (simp length-set (omega arith), put_more _ _ _ _ _ (omega arith) ∙ c.loop-i.invariant.1)

pub returns : goal.returns
returns c =
    let e : c.args.w - c.loop-i.i ≡ 0 = omega arith in
    rw (e, le_none) at c.loop-i.invariant.1
