-- The place, times 64, to the nearest.
use mir.Facts.{to_z-of_z}
use Rattle.row.proofs.Places.{rounded_placed}
use Rattle.row.proofs.sixty_fourth.Goals as goal

pub returns : goal.returns
returns c =
    rounded_placed _ c.requires.timely.den_pos (rw (to_z-of_z c.ranges.v) at c.place-p.ensures) c.nearest.ensures
