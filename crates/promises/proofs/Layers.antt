-- `layers`: what specs/Layers.antt says holds of every accepted sheet; of one in bytes and of records handed in by `of_bytes` and `of_records` in Sheets.antt.
use mathlib.Core.Path.{◌≡◌, refl, sym, ap, subst, ◌∙◌}
use mathlib.Core.Logic.{◌↔◌}
use mathlib.Core.List.Memᴰ
use mathlib.Core.List.{List, [], ◌∷◌, ◌++◌}
use Prim.Native.Nat.{ℕ, ◌+◌, ◌*◌, ◌≤◌, ◌<◌}
use native.Mathlib.Omega.{arith}
use lib.ListN.{length, drop, length-map}
use Rattle.fraction.specs.Whole.{Whole, ◌·◌}
use Rattle.rounding.specs.Nearest.{Nearest}
use Rattle.rounding.proofs.OneNearest.{nearest_once}
use Rattle.sheet.specs.declared.Command.{Command}
use Rattle.sheet.specs.declared.Track.{Track}
use Rattle.sheet.specs.Accepted.{Accepted}
use Rattle.sheet.specs.Listing.{Listing, listing, ◌∈◌, tracks_of}
use Rattle.sheet.specs.Returned.{Returned, accepted, gives, refused}
use Rattle.sheet.proofs.Lent as ending
use Rattle.rule.specs.declared.Row.{Row}
use Rattle.rule.specs.Motion.{X, Y}
use Rattle.rule.specs.Rows.{time}
use Rattle.rule.specs.Selection.{roll_of}
use Rattle.rule.proofs.Existence.{roll_of_lem, roll_length}
use Rattle.grid_run.proofs.Given.{given_accepted, given_records}
use Rattle.shapefile.specs.declared.Layer.{Layer}
use Rattle.shapefile.specs.declared.Layer.TheVariants.{Traces, Ends}
use Rattle.shapefile.specs.declared.Part.{Part}
use Rattle.shapefile.specs.declared.Part.TheVariants.{Main, Index}
use Rattle.shapefile.specs.declared.Passage.{Passage}
use Rattle.shapefile.specs.Figures.{Figure}
use Rattle.shapefile.specs.Files.{type_of, figure, figures, file_of}
use Rattle.shapefile.specs.Reading.{ShapeAt, point, null, line, Records, ends, next, Layered}
use Rattle.shapefile.proofs.Reading.{layer_read}
use Rattle.passages.specs.Passages.{track_with, passage_of, passages_of}
use Rattle.passages.proofs.OwnTrack.{own_track, ways_order, ways_narrow}
use Rattle.shape_files.specs.Exported.{file_returns}
use Rattle.shape_layers.specs.Layers.{layer_file}
use Rattle.promises.specs.Layers.{Export, export, ShapeOf, its_end, its_trace, ShapesOf, none, more, HalfA64th, Still, longest, Layers}

-- ---- how long the files are

-- the words of a layer's longest shape: a Point, or a PolyLine (SHEETS 12.4, 12.5)
abbrev most : Layer → ℕ
most Traces = 40
most Ends = 10

module _ {l : List Command} where
  small : {r : Row} {layer : Layer} {f : Figure} {s : List ℕ} {at size : ℕ} → ShapeOf l r layer f → ShapeAt s at f size → size ≤ most layer
  small its_end (point t p) = omega arith
  small (its_trace a i e) (null x y t) = omega arith
  small (its_trace a i e) (line d t b n m z p q) = omega arith

  module _ {layer : Layer} {main index : List ℕ} where
    main_most : {k at : ℕ} {rows : List Row} {shapes : List Figure} → ShapesOf l layer rows shapes → Records main index k at shapes → length main ≤ 2 * at + (8 + 2 * most layer) * length rows
    main_most none (ends e i) = omega arith
    main_most {k = k} (more h t) (next r u) = omega (arith, small h r.shape, main_most {k = k + 1} t u)

    index_is : {k at : ℕ} {rows : List Row} {shapes : List Figure} → ShapesOf l layer rows shapes → Records main index k at shapes → length index ≡ 100 + 8 * (k + length rows)
    index_is none (ends e i) = omega arith
    index_is {k = k} (more h t) (next r u) = omega (arith, index_is {k = k + 1} t u)

-- ---- null shapes

-- a start is at an even number of 64ths, so an exact half from it is rounded to it
still : (P : Whole) {d q : ℕ} (x : ℕ) → 0 < d → Nearest (P · 64) d q → (64 * x ≡ q) ↔ HalfA64th P d x
still P {d} {q} x p f = (there, back)
  where
    there : 64 * x ≡ q → HalfA64th P d x
    there e = let g = subst (Nearest (P · 64) d) (sym e) f in record { low = record { le = omega (arith, g.low.le) }; high = record { le = omega (arith, g.high.le) } }

    back : HalfA64th P d x → 64 * x ≡ q
    back h =
        nearest_once p
        (record {
          low = record { le = omega (arith, h.low.le) };
          high = record { le = omega (arith, h.high.le) };
          even = λ k. record { half = 32 * x; is = omega arith };
        })
        f

-- ---- of an accepted sheet

module _ (l : List Command) (acc : Accepted (listing l)) where
  abbrev S : Listing
  S = listing l

  abbrev ways : List Passage
  ways = passages_of (tracks_of l) (roll_of S)

  few_rows : length (roll_of S) ≤ 256
  few_rows = omega (arith, roll_length S acc, acc.few_tracks)

  shape : (layer : Layer) (r : Row) → r ∈ roll_of S → ShapeOf l r layer (figure layer (passage_of (tracks_of l) r))
  unfolding figure passage_of
  shape Ends r m = its_end
  shape Traces r m = let (i, e) = own_track S acc r m in its_trace (track_with (tracks_of l) r.id) i e

  each : (layer : Layer) (rows : List Row) → ((r : Row) → r ∈ rows → r ∈ roll_of S) → ShapesOf l layer rows (figures layer (passages_of (tracks_of l) rows))
  unfolding figures passages_of
  each layer [] f = none
  each layer (r ∷ rows) f = more (shape layer r (f r (Memᴰ.head refl))) (each layer rows (λ q m. f q (Memᴰ.tail m)))

  shapes_of : (layer : Layer) → ShapesOf l layer (roll_of S) (figures layer ways)
  shapes_of layer = each layer (roll_of S) (λ r m. m)

  null_shape : (r : Row) (a : Track) → r ∈ roll_of S → a ∈ tracks_of l → a.id ≡ r.id → ((64 * a.x ≡ r.x) × (64 * a.y ≡ r.y)) ↔ Still r a
  null_shape r a m i e =
      let k = (roll_of_lem S acc).meets.by_rule r a m i (sym e) in
      let p = (roll_of_lem S acc).meets.is_set.den_pos r m in
      let x = still (X a (time r)) a.x p k.rounded_x in
      let y = still (Y a (time r)) a.y p k.rounded_y in
      (λ h. (x.0 h.0, y.0 h.1), λ h. (x.1 h.0, y.1 h.1))

  read : (layer : Layer) → Layered (type_of layer) (figures layer ways) (layer_file layer Main S) (layer_file layer Index S)
  unfolding layer_file passages_of
  read layer = layer_read layer ways (rw length-map few_rows) (ways_narrow S acc)

  no_longer : (layer : Layer) (part : Part) → length (layer_file layer part S) ≤ longest layer part
  no_longer Traces Main = omega (arith, main_most (shapes_of Traces) (read Traces).records, few_rows)
  no_longer Ends Main = omega (arith, main_most (shapes_of Ends) (read Ends).records, few_rows)
  no_longer Traces Index = omega (arith, index_is (shapes_of Traces) (read Traces).records, few_rows)
  no_longer Ends Index = omega (arith, index_is (shapes_of Ends) (read Ends).records, few_rows)

  module _ (layer : Layer) (part : Part) where
    abbrev file : List ℕ
    file = layer_file layer part S

    module _ {before exit : List ℕ} where
      -- what is said of the records in any order is said of them as l lists them
      as_listed : {x : Returned} → Export l layer part before exit x → ending.Ends (file_returns accepted file (length before)) file before x exit
      unfolding layer_file
      as_listed (export r i h) =
          let c = ap (file_of layer part) (ways_order (given_records acc i) acc) in
          (rw (given_accepted acc i, ← c) at h.answer, rw (given_accepted acc i, ← c) at h.buffer)

      written : {x : Returned} → Export l layer part before exit x → length file ≤ length before → (x ≡ gives (length file)) × (exit ≡ file ++ drop (length file) before)
      written c room =
          let (a, b) = as_listed c in
          let t = ending.said_given {v = accepted} (length file) (length before) (length file) refl room in
          (a ∙ t, b ∙ ending.put file before t)

      too_short : {x : Returned} → Export l layer part before exit x → length before < length file → (x ≡ refused 12 (length file)) × (exit ≡ before)
      too_short c less =
          let (a, b) = as_listed c in
          let t = ending.said_short {v = accepted} (length file) (length before) (length file) refl less in
          (a ∙ t, b ∙ ending.kept file before t)

pub layers : (l : List Command) → Accepted (listing l) → Layers l
layers l acc =
    record {
      roll = roll_of (listing l);
      is_roll = roll_of_lem (listing l) acc;
      shapes = λ layer. figures layer (ways l acc);
      each = shapes_of l acc;
      null_shape = null_shape l acc;
      file = λ layer part. layer_file layer part (listing l);
      read = read l acc;
      written = λ {layer} {part} c. written l acc layer part c;
      too_short = λ {layer} {part} c. too_short l acc layer part c;
      no_longer = no_longer l acc;
    }
