-- The bytes not yet stored, stored before those that are, make the whole field.
use mathlib.Core.Path.{◌≡◌}
use lib.Seq.{sets}
use Rattle.byte_order.specs.Orders.{be_bytes}
use lib.ListN.{length}
use Rattle.byte_order.proofs.put_high_first.Given as goal

abbrev pub invariant-loop-i : goal.invariant-loop-i
invariant-loop-i l = (length l.out ≡ length l.initial.out) × (sets l.out l.at (be_bytes l.i l.higher) ≡ sets l.initial.out l.at (be_bytes l.w l.v))
