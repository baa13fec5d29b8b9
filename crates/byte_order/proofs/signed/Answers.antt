-- The cast gives the number.
use Rattle.std.proofs.lemmas.Int.{of_z-to_z}
use native.Mathlib.Omega.{arith}
use mathlib.Core.Path.{◌≡◌, ap, ◌∙◌}
use lib.IntN.{ℤ}
use mir.Syntax.{w8}
use mir.Val.{of_z, to_z}
use Rattle.byte_order.specs.Bytes.{signed_of}
use Rattle.byte_order.proofs.Complement.{signed_is}
use Rattle.byte_order.proofs.signed.Goals as goal

pub returns : goal.returns
returns c =
    let e : to_z w8 (of_z w8 (to_z w8 c.args.b)) ≡ signed_of c.args.b = rw (of_z-to_z w8 c.args.b (omega arith)) (signed_is c.args.b) in
    ap (λ (z : ℤ). to_z w8 (of_z w8 z)) c.cast_signed.ensures ∙ e
