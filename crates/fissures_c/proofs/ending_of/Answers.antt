-- By the partner's size.
use borrow.Author.Tests.{lt-ltb, le-ltb}
use Rattle.fissures_c.specs.Steps.{ending_of}
use Rattle.fissures_c.proofs.ending_of.Goals as goal

pub returns-then-partner-gt65535 : goal.returns-then-partner-gt65535
unfolding ending_of
returns-then-partner-gt65535 c = simp (lt-ltb 65535 _ c.if-partner-gt65535.true)

pub returns : goal.returns
unfolding ending_of
returns c = simp (le-ltb 65535 _ c.if-partner-gt65535.false) c.ending_from.ensures
