-- A cast that keeps the number, and a division that does.
use native.Mathlib.Omega.{arith}
use Rattle.doubles.proofs.Exactly.{divided}
use Rattle.doubles.proofs.double_of.Goals as goal

pub returns : goal.returns
returns c = divided c.args.n (omega arith)
