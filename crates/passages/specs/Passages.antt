-- The ways of a roll's tips, in roll order (SHEETS 12.3, 12.5).
use Rattle.std.specs.Prelude.{cond, List, [], ◌∷◌, map, ℕ, ◌*◌, eqb}
use Rattle.sheet.specs.declared.Track.{Track}
use Rattle.sheet.specs.HandedIn.{no_track}
use Rattle.rule.specs.declared.Row.{Row}
use Rattle.shapefile.specs.declared.Passage.{Passage}

-- the track with an id. Each row of an accepted sheet has one (`own_track` in proofs/OwnTrack.antt), so that the blank is never taken
unfoldable pub track_with : List Track → ℕ → Track
track_with [] id = no_track
track_with (a ∷ l) id = cond (eqb a.id id) a (track_with l id)

-- from its start, in 64ths, to the row's end point (SHEETS 12.5)
unfoldable pub passage_of : List Track → Row → Passage
passage_of tracks r = let a = track_with tracks r.id in record { x = 64 * a.x; y = 64 * a.y; u = r.x; v = r.y }

unfoldable pub passages_of : List Track → List Row → List Passage
passages_of tracks rows = map (passage_of tracks) rows
