-- What the mapping section relies on when it loads a sheet's layers as shapefiles: each file has a shape for each row, a reader finds them all, and no order of the sheet changes
-- a byte (SHEETS 12). Proved of every accepted sheet as `layers` in proofs/Layers.antt.
use Rattle.std.specs.Prelude.{◌≡◌, List, [], ◌∷◌, ◌++◌, ◌↔◌, ℕ, ◌+◌, ◌*◌, ◌≤◌, ◌<◌, length, drop, Result}
use Rattle.fraction.specs.Whole.{Whole, nat, ◌⊑◌, ◌⊕◌, ◌·◌}
use Rattle.sheet.specs.declared.Refusal.{Refusal}
use Rattle.sheet.specs.declared.Command.{Command}
use Rattle.sheet.specs.declared.Track.{Track}
use Rattle.sheet.specs.Answer.{answered}
use Rattle.sheet.specs.Listing.{Listing, listing, ◌∈◌, tracks_of}
use Rattle.sheet.specs.Returned.{Returned, gives, refused}
use Rattle.rule.specs.declared.Row.{Row}
use Rattle.rule.specs.Motion.{X, Y}
use Rattle.rule.specs.Rows.{time}
use Rattle.rule.specs.Roll.{RollOf}
use Rattle.grid_run.specs.Demand.{Given}
use Rattle.shapefile.specs.declared.Layer.{Layer}
use Rattle.shapefile.specs.declared.Layer.TheVariants.{Traces, Ends}
use Rattle.shapefile.specs.declared.Part.{Part}
use Rattle.shapefile.specs.declared.Part.TheVariants.{Main, Index}
use Rattle.shapefile.specs.Figures.{Figure, end, trace}
use Rattle.shapefile.specs.Files.{type_of}
use Rattle.shapefile.specs.Reading.{Layered}
use Rattle.shape_files.specs.Exported.{Exports}
use Rattle.shape_layers.specs.Layers.{layer_file}

-- a call of an export on the sheet of commands l, given in any order and as bytes or records (SHEETS 12.1): the caller's buffer before and after it, and what it returned
pub data Export (l : List Command) (layer : Layer) (part : Part) (before exit : List ℕ) : Returned → Type 0 where
  export : {v : Returned} {S : Listing} (r : Result ℕ Refusal) → Given l v S → Exports v (layer_file layer part S) before exit r → Export l layer part before exit (answered r)

-- the shape of a row, in 64ths
pub data ShapeOf (l : List Command) (r : Row) : Layer → Figure → Type 0 where
  -- its end point (SHEETS 12.4)
  its_end : ShapeOf l r Ends (end r.x r.y)
  -- from the start of its own track to there (SHEETS 12.5)
  its_trace : (a : Track) → a ∈ tracks_of l → a.id ≡ r.id → ShapeOf l r Traces (trace (64 * a.x) (64 * a.y) r.x r.y)

-- one for each row, in the roll's order (SHEETS 12.3)
pub data ShapesOf (l : List Command) (layer : Layer) : List Row → List Figure → Type 0 where
  none : ShapesOf l layer [] []
  more : {r : Row} {f : Figure} {rows : List Row} {shapes : List Figure} → ShapeOf l r layer f → ShapesOf l layer rows shapes → ShapesOf l layer (r ∷ rows) (f ∷ shapes)

-- P / d is at most half a 64th from x units: |64 · P / d − 64 · x| ≤ 1/2 (SHEETS 12.5)
pub record HalfA64th (P : Whole) (d x : ℕ) : Type 0 where
  pub low : nat (128 * x * d) ⊑ P · 128 ⊕ nat d
  pub high : P · 128 ⊑ nat ((128 * x + 1) * d)

-- the tip of a row ends no further than that from its start, in x and in y (SHEETS 12.5)
abbrev pub Still : Row → Track → Type 0
Still r a = HalfA64th (X a (time r)) r.at.den a.x × HalfA64th (Y a (time r)) r.at.den a.y

-- how long the files are at most, in bytes: those of 256 rows
abbrev pub longest : Layer → Part → ℕ
longest Traces Main = 22628
longest Ends Main = 7268
longest layer Index = 2148

pub record Layers (l : List Command) : Type 0 where
  -- the one roll, and the shapes of its rows in each layer
  pub roll : List Row
  pub is_roll : RollOf (listing l) roll
  pub shapes : Layer → List Figure
  pub each : (layer : Layer) → ShapesOf l layer roll (shapes layer)
  -- a row's trace is a null shape, its two points one, exactly where its tip ends at most half a 64th from its start (SHEETS 12.5)
  pub null_shape : (r : Row) (a : Track) → r ∈ roll → a ∈ tracks_of l → a.id ≡ r.id → ((64 * a.x ≡ r.x) × (64 * a.y ≡ r.y)) ↔ Still r a
  -- the two files of a layer
  pub file : Layer → Part → List ℕ
  -- what a reader finds in them: the lengths and offsets are true (SHEETS 12.2, 12.7), the boxes least and greatest (SHEETS 12.6), the coordinates exactly their 64ths (SHEETS 12.8)
  pub read : (layer : Layer) → Layered (type_of layer) (shapes layer) (file layer Main) (file layer Index)
  -- with room for it a call gives the file's length, writes its bytes, and nothing behind them, in whatever order the sheet is given (SHEETS 12.1)
  pub written :
      {layer : Layer} {part : Part} {before exit : List ℕ} {x : Returned} → Export l layer part before exit x → length (file layer part) ≤ length before
      → (x ≡ gives (length (file layer part))) × (exit ≡ file layer part ++ drop (length (file layer part)) before)
  -- with less it is refused as 12 with that length, and nothing is written
  pub too_short :
      {layer : Layer} {part : Part} {before exit : List ℕ} {x : Returned} → Export l layer part before exit x → length before < length (file layer part)
      → (x ≡ refused 12 (length (file layer part))) × (exit ≡ before)
  -- so a buffer for the longest is never too short
  pub no_longer : (layer : Layer) (part : Part) → length (file layer part) ≤ longest layer part
