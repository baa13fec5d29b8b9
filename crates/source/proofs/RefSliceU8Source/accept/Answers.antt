-- The records of an accepted sheet's bytes are ready for a run.
use native.Mathlib.Omega.{arith}
use Rattle.source.proofs.Prepared.{read_ready}
use Rattle.source.proofs.RefSliceU8Source.accept.Goals as goal

pub returns : goal.returns
returns c = read_ready _ (record { below = λ i. omega (arith, c.type_inv.self i) }) c.read.ensures
