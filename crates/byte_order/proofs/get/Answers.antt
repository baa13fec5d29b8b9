-- From the highest byte down: the number that the bytes passed stand for.
use native.Mathlib.Omega.{arith}
use Prim.Native.Nat.{◌-◌, ◌+◌}
use mathlib.Core.Path.{◌≡◌}
use Rattle.byte_order.specs.Bytes.{le_of}
use Rattle.byte_order.proofs.Bytes.{slice_bytes, le_bound}
use Rattle.byte_order.proofs.Downward.{le_step, le_room}
use Rattle.byte_order.proofs.get.Goals as goal

pub loop-i-init : goal.loop-i-init
unfolding le_of
loop-i-init c =
    let e : c.args.w - c.args.w ≡ 0 = omega arith in
    rw e

pub overflow_mul-v : goal.overflow_mul-v
overflow_mul-v c =
    let a = c.args in
    let k = le_room a.s.now a.at a.w c.loop-i.i (slice_bytes a.s.now c.type_inv.s) (omega arith) c.requires.1 in
    record { fits = omega (arith, c.loop-i.invariant) }

pub overflow_add-v : goal.overflow_add-v
overflow_add-v c =
    let a = c.args in
    let k = le_room a.s.now a.at a.w c.loop-i.i (slice_bytes a.s.now c.type_inv.s) (omega arith) c.requires.1 in
    record { fits = omega (arith, c.loop-i.invariant) }

pub loop-i-preserved : goal.loop-i-preserved
loop-i-preserved c =
    let a = c.args in
    rw (c.from.ensures, c.loop-i.invariant) (le_step a.s.now a.at a.w c.loop-i.i (omega arith) (omega arith))

pub returns : goal.returns
returns c =
    let a = c.args in
    let z : c.loop-i.i ≡ 0 = omega arith in
    let w : a.w - 0 ≡ a.w = omega arith in
    let p : a.at + 0 ≡ a.at = omega arith in
    let e : c.loop-i.v ≡ le_of a.w a.s.now a.at = rw (z, w, p) at c.loop-i.invariant in
    (e, rw e (le_bound a.w a.s.now a.at (slice_bytes a.s.now c.type_inv.s)))
