-- Where the part lies that is handed back, as the code says it (SHEETS 8.3, 8.4).
use Rattle.names.specs.declared.place.Place.{Place}
use Rattle.names.specs.declared.place.Place.TheVariants.{OfTracks, OfWalls}
use Rattle.names.specs.Partner.{Part, of_tracks, of_walls}

abbrev pub part_at : Place → Part
part_at (OfTracks start size) = of_tracks start size
part_at (OfWalls start size) = of_walls start size
