-- `with_wall` gives the first of a cause and a wall.
use Rattle.cause.proofs.Answers.{wall-at}
use Rattle.cause.proofs.First.{least_first, least_second}
use Rattle.cause.proofs.with_wall.Goals as goal

pub returns-then-ahead : goal.returns-then-ahead
returns-then-ahead c = wall-at c.in-Some.is c.wall_of.ensures (least_first c.ahead.ensures c.if-ahead.true)

pub returns-else-ahead : goal.returns-else-ahead
returns-else-ahead c = wall-at c.in-Some.is c.wall_of.ensures (least_second c.ahead.ensures c.if-ahead.false)
