-- `roll` writes the roll of an accepted sheet: the causes are found, and the turns taken.
use Rattle.plain_turns.proofs.Beginning.{all_known, begin_none, begin_state, room_for}
use Rattle.plain_turns.proofs.roll.Goals as goal

pub begin-requires : goal.begin-requires
begin-requires c = (all_known, begin_none c.new-tips.ensures)

pub take_turns-requires : goal.take_turns-requires
take_turns-requires c = let (handed, room) = c.requires in (all_known, begin_state handed.accepted c.begin.ensures, room_for handed room)
