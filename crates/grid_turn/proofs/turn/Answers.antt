-- `turn` deals with each kind of event.
use Rattle.grid_turn.proofs.Turns.{enter_asks, turn-entered, wall_asks, turn_walled, edge_asks, turn-left, reach_asks, turn_reached}
use Rattle.grid_turn.proofs.turn.Goals as goal

pub enter-requires : goal.enter-requires
enter-requires c = enter_asks c.requires.0 c.in_ok-i.ensures c.in-Cell.is

pub reach-requires : goal.reach-requires
reach-requires c = (reach_asks c.requires.0 c.in_ok-i.ensures c.in-Track.is, c.requires.1)

pub end_tip-requires : goal.end_tip-requires
end_tip-requires c = (wall_asks c.requires.0 c.in_ok-i.ensures c.in-Wall.is, c.requires.1)

pub end_tip-requires-in-Edge : goal.end_tip-requires-in-Edge
end_tip-requires-in-Edge c = (edge_asks c.requires.0 c.in_ok-i.ensures c.in-Edge.is, c.requires.1)

pub returns-in-Cell-clause-turned : goal.returns-in-Cell-clause-turned
returns-in-Cell-clause-turned c = turn-entered c.requires.0 c.in_ok-i.ensures c.in-Cell.is c.enter.ensures

pub returns-in-Track-clause-turned : goal.returns-in-Track-clause-turned
returns-in-Track-clause-turned c = (turn_reached c.requires.0 c.in_ok-i.ensures c.in-Track.is c.reach.ensures.reached c.reach.ensures.same_marks).0

pub returns-in-Track-clause-wrote : goal.returns-in-Track-clause-wrote
returns-in-Track-clause-wrote c = (turn_reached c.requires.0 c.in_ok-i.ensures c.in-Track.is c.reach.ensures.reached c.reach.ensures.same_marks).1

pub returns-in-Wall-clause-turned : goal.returns-in-Wall-clause-turned
returns-in-Wall-clause-turned c = (turn_walled c.requires.0 c.in_ok-i.ensures c.in-Wall.is c.end_tip.ensures).0

pub returns-in-Wall-clause-wrote : goal.returns-in-Wall-clause-wrote
returns-in-Wall-clause-wrote c = (turn_walled c.requires.0 c.in_ok-i.ensures c.in-Wall.is c.end_tip.ensures).1

pub returns-in-Edge-clause-turned : goal.returns-in-Edge-clause-turned
returns-in-Edge-clause-turned c = (turn-left c.requires.0 c.in_ok-i.ensures c.in-Edge.is c.end_tip-in-Edge.ensures).0

pub returns-in-Edge-clause-wrote : goal.returns-in-Edge-clause-wrote
returns-in-Edge-clause-wrote c = (turn-left c.requires.0 c.in_ok-i.ensures c.in-Edge.is c.end_tip-in-Edge.ensures).1
