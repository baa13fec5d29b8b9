-- `common` meets its contract: the common divisors of x and y are those of a and b at every turn, and y falls.
use mathlib.Core.Path.{◌≡◌}
use native.Mathlib.Nat.{dvd-mod_iff, dvd_refl, dvd-zero}
use native.Mathlib.Omega.{arith}
use Rattle.fraction.proofs.common.Goals as goal

pub loop-y-preserved : goal.loop-y-preserved
loop-y-preserved c = λ k. (
  λ h. (c.loop-y.invariant k).0 ((dvd-mod_iff k h.0).0 h.1, h.0),
  λ h. let g = (c.loop-y.invariant k).1 h in (g.1, (dvd-mod_iff k g.1).1 g.0),
)

pub returns : goal.returns
returns c =
    let l = c.loop-y in
    let z : l.y ≡ 0 = omega arith in
    let g = (l.invariant l.x).0 (dvd_refl l.x, rw z (dvd-zero l.x)) in
    record { left = g.0; right = g.1; greatest = λ k p q. ((l.invariant k).1 (p, q)).0 }
