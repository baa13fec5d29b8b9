-- A coordinate by the sign of the speed.
use Rattle.row.proofs.Places.{falling, resting, rising}
use Rattle.row.proofs.place.Goals as goal

pub overflow_sub-result : goal.overflow_sub-result
overflow_sub-result c =
    (falling c.requires c.ranges.v c.sign_of-step.ensures c.in-Minus.is).1

pub returns-in-Minus : goal.returns-in-Minus
returns-in-Minus c =
    (falling c.requires c.ranges.v c.sign_of-step.ensures c.in-Minus.is).2

pub returns-in-Zero : goal.returns-in-Zero
returns-in-Zero c =
    resting c.requires c.ranges.v c.sign_of-step.ensures c.in-Zero.is

pub returns-in-Plus : goal.returns-in-Plus
returns-in-Plus c =
    (rising c.requires c.ranges.v c.sign_of-step.ensures c.in-Plus.is).2
