-- The files of a sheet (SHEETS 12.1): each of its roll, in roll order.
use Rattle.std.specs.Prelude.{List, ℕ}
use Rattle.sheet.specs.Listing.{Listing}
use Rattle.rule.specs.Selection.{roll_of}
use Rattle.shapefile.specs.declared.Layer.{Layer}
use Rattle.shapefile.specs.declared.Part.{Part}
use Rattle.shapefile.specs.Files.{file_of}
use Rattle.passages.specs.Passages.{passages_of}

unfoldable pub layer_file : Layer → Part → Listing → List ℕ
layer_file layer part S = file_of layer part (passages_of S.tracks (roll_of S))
