-- The bytes not yet stored, stored behind those that are, make the whole field.
use Prim.Native.Nat.{◌-◌, ◌+◌}
use mathlib.Core.Path.{◌≡◌}
use lib.ListN.{length}
use lib.Seq.{sets}
use Rattle.byte_order.specs.Bytes.{le_bytes}
use Rattle.byte_order.proofs.put.Given as goal

abbrev pub invariant-loop-i : goal.invariant-loop-i
invariant-loop-i l = (length l.out ≡ length l.initial.out) × (sets l.out (l.at + l.i) (le_bytes (l.w - l.i) l.rest) ≡ sets l.initial.out l.at (le_bytes l.w l.v))
