-- From the highest byte down: the number that the bytes passed stand for.
use Prim.Native.Nat.{◌-◌, ◌+◌}
use mathlib.Core.Path.{◌≡◌}
use Rattle.byte_order.specs.Bytes.{le_of}
use Rattle.byte_order.proofs.get.Given as goal

abbrev pub invariant-loop-i : goal.invariant-loop-i
invariant-loop-i l = l.v ≡ le_of (l.w - l.i) l.s (l.at + l.i)
