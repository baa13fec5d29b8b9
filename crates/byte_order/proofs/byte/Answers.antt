-- The cast gives the byte.
use Rattle.std.proofs.lemmas.Int.{to_z-of_z}
use mir.Syntax.{w8}
use mathlib.Core.Path.{◌∙◌}
use Rattle.byte_order.proofs.Complement.{byte_is}
use Rattle.byte_order.proofs.byte.Goals as goal

pub returns : goal.returns
returns c = c.cast_unsigned.ensures ∙ rw (to_z-of_z w8 c.args.v c.ranges.v) (byte_is c.args.v)
