-- A byte in two's complement is what std's casts give: `signed_is`, `byte_is`.
use Prim.Native.Nat.{ℕ, suc, ◌-◌}
use mathlib.Core.Path.{◌≡◌, refl, ap}
use mathlib.Core.Bool.{Bool, true, false, cond}
use native.Mathlib.Omega.{arith}
use lib.Dec.{ltb}
use lib.IntN.{ℤ, pos, negsuc}
use mir.Syntax.{w8}
use mir.Val.{to_z, of_z, sel}
use Rattle.byte_order.specs.Bytes.{signed_of, byte_of}

pub signed_is : (b : ℕ) → to_z w8 b ≡ signed_of b
unfolding signed_of
signed_is b = go (ltb b 128)
  where
    go : (t : Bool) → sel t (pos b) (negsuc (256 - suc b)) ≡ cond t (pos b) (negsuc (255 - b))
    go true = refl
    go false = let e : 256 - suc b ≡ 255 - b = omega arith in ap negsuc e

pub byte_is : (z : ℤ) → of_z w8 z ≡ byte_of z
unfolding byte_of
byte_is (pos n) = refl
byte_is (negsuc n) = omega arith
