-- The files of a layer, byte for byte (SHEETS 12.1 to 12.3, 12.7).
use Rattle.std.specs.Prelude.{List, [], ◌∷◌, ◌++◌, map, ℕ, ◌+◌, ◌*◌, length}
use Rattle.shapefile.specs.declared.Layer.{Layer}
use Rattle.shapefile.specs.declared.Layer.TheVariants.{Traces, Ends}
use Rattle.shapefile.specs.declared.Part.{Part}
use Rattle.shapefile.specs.declared.Part.TheVariants.{Main, Index}
use Rattle.shapefile.specs.declared.Passage.{Passage}
use Rattle.shapefile.specs.Extent.{extent}
use Rattle.shapefile.specs.Figures.{Figure, end, trace, points_of, extent_bytes, content}
use Rattle.shapefile.specs.Layout.{big, words, header, record_bytes}

-- ---- of some figures

-- the records, the first of them with number k (SHEETS 12.3)
unfoldable pub records_from : ℕ → List Figure → List ℕ
records_from k [] = []
records_from k (f ∷ l) = record_bytes k (content f) ++ records_from (k + 1) l

-- numbers count from 1; the length takes in the header's 50 words (SHEETS 12.2, 12.3)
unfoldable pub main_file : ℕ → List Figure → List ℕ
main_file type l = let r = records_from 1 l in header type (50 + words r) (extent_bytes (extent (points_of l))) ++ r

-- an entry for each record, the first of which begins k words into the main file: where it begins, and the length of its contents (SHEETS 12.7)
unfoldable pub entries_from : ℕ → List Figure → List ℕ
entries_from k [] = []
entries_from k (f ∷ l) = (big k ++ big (words (content f))) ++ entries_from (k + (4 + words (content f))) l

-- its own length, the main file's box (SHEETS 12.7)
unfoldable pub index_file : ℕ → List Figure → List ℕ
index_file type l = header type (50 + 4 * length l) (extent_bytes (extent (points_of l))) ++ entries_from 50 l

-- ---- of some tips' ways

-- PolyLine and Point (SHEETS 12.2)
unfoldable pub type_of : Layer → ℕ
type_of Traces = 3
type_of Ends = 1

-- from start to end point, or the end point (SHEETS 12.4, 12.5)
unfoldable pub figure : Layer → Passage → Figure
figure Traces p = trace p.x p.y p.u p.v
figure Ends p = end p.u p.v

unfoldable pub figures : Layer → List Passage → List Figure
unfolding figure
figures layer l = map (figure layer) l

unfoldable pub file_of : Layer → Part → List Passage → List ℕ
file_of layer Main l = main_file (type_of layer) (figures layer l)
file_of layer Index l = index_file (type_of layer) (figures layer l)
