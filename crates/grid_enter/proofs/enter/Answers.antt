-- `enter`: the tip looks at the walls of the cell, meets its tips, joins them, and has its next event.
use mathlib.Core.Path.{refl}
use Rattle.grid_state.proofs.Ways.{way_place, way_looks, way_code, way_count, way_meet, way_back}
use Rattle.grid_enter.proofs.enter.Goals as goal

pub look_here-requires : goal.look_here-requires
look_here-requires c = let w = c.requires.way in (w.in_grid, way_looks w)

pub meet-requires : goal.meet-requires
meet-requires c = let w = c.requires.way in (way_code w, way_meet w c.look_here.ensures)

pub join-requires : goal.join-requires
join-requires c = let w = c.requires.way in (way_count w, way_code w, (way_place w).1)

pub schedule-requires : goal.schedule-requires
schedule-requires c = way_back c.requires.way c.look_here.ensures c.meet.ensures refl
