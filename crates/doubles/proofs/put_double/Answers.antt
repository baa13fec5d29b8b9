-- The bits, as any number of eight bytes.
use borrow.Author.Rules.{rules}
use Rattle.doubles.specs.Doubles.{double_bytes}
use Rattle.doubles.proofs.put_double.Goals as goal

pub returns : goal.returns
unfolding double_bytes
returns c = search rules
