-- `turns` writes the roll and counts the cells.
use Rattle.grid_turns.proofs.Turning.{turning_start, turn_room, turned_on, less_on, all_ran}
use Rattle.grid_turns.proofs.turns.Goals as goal

pub loop-k-init : goal.loop-k-init
loop-k-init c = turning_start c.args.out.now c.requires.0

pub turn-requires : goal.turn-requires
turn-requires c = (c.loop-k.invariant.going, turn_room c.requires.1 c.loop-k.invariant)

pub loop-k-smaller : goal.loop-k-smaller
loop-k-smaller c = less_on c.requires.1 c.loop-k.invariant c.in-Some.is c.turn.ensures.turned

pub loop-k-preserved : goal.loop-k-preserved
loop-k-preserved c = turned_on c.requires.1 c.loop-k.invariant c.in-Some.is c.turn.ensures.turned c.turn.ensures.wrote

pub returns : goal.returns
returns c = all_ran c.requires.1 c.loop-k.invariant c.in_default.is c.turn.ensures.turned c.turn.ensures.wrote c.count.ensures
