-- `roll` begins all tips in new tables, and deals with all events.
use Rattle.grid_state.proofs.Opening.{opened}
use Rattle.grid_state.proofs.Ways.{starting_going}
use Rattle.grid_turns.proofs.Turning.{handed_room}
use Rattle.grid_turns.proofs.roll.Goals as goal

pub begin-requires : goal.begin-requires
begin-requires c = opened c.requires.0.accepted c.requires.1 c.new.ensures c.new-2.ensures c.new-3.ensures c.new-members.ensures.empty c.new-members.ensures.uncounted

pub turns-requires : goal.turns-requires
turns-requires c = (starting_going c.begin.ensures, handed_room c.requires.0 c.args.out.now c.requires.2)
