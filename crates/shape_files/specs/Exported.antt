-- What a call that writes a file returns, and what the caller's buffer then holds (SHEETS 3.8 to 3.10, 12.1).
use Rattle.std.specs.Prelude.{◌≡◌, List, ℕ, ◌/◌, length, Result}
use Rattle.std.proofs.lemmas.List.Edits.{sets}
use Rattle.shapefile.specs.declared.Layer.{Layer}
use Rattle.shapefile.specs.declared.Passage.{Passage}
use Rattle.shapefile.specs.Extent.{extent}
use Rattle.shapefile.specs.Layout.{header}
use Rattle.shapefile.specs.Figures.{points_of}
use Rattle.shapefile.specs.Files.{type_of, figures}
use Rattle.shape_records.specs.Shapes.{bounds_of, bounds_bytes, NarrowExtent}
use Rattle.sheet.specs.declared.Refusal.{Refusal}
use Rattle.sheet.specs.Answer.{answered}
use Rattle.sheet.specs.Lent.{and_then, or_short, after}
use Rattle.sheet.specs.Returned.{Returned}

-- 12 after what is said of the sheet (SHEETS 3.8, 3.9); else the file's length in bytes
abbrev pub file_returns : Returned → List ℕ → ℕ → Returned
file_returns v file lent = and_then v (or_short (length file) lent (length file))

-- the answer and the buffer's contents at exit (SHEETS 3.10), for a sheet with a verdict and its file
pub record Exports (v : Returned) (file before exit : List ℕ) (r : Result ℕ Refusal) : Type 0 where
  pub answer : answered r ≡ file_returns v file (length before)
  pub buffer : exit ≡ after (file_returns v file (length before)) file before

-- the header of a file of so many bytes stands in front
pub record Begun (layer : Layer) (passages : List Passage) (total : ℕ) (before exit : List ℕ) : Type 0 where
  pub narrow : NarrowExtent (extent (points_of (figures layer passages)))
  pub stored : exit ≡ sets before 0 (header (type_of layer) (total / 2) (bounds_bytes (bounds_of (extent (points_of (figures layer passages))))))
