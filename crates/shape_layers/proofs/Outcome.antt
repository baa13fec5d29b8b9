-- What an export returns and leaves, in each of its endings.
use Rattle.std.specs.Prelude.{Result, Err}
use Prim.Native.Nat.{ℕ}
use mathlib.Core.Path.{◌≡◌, sym, ap, subst}
use mathlib.Core.List.{List}
use lib.ListN.{length}
use Rattle.sheet.specs.declared.Refusal.{Refusal}
use Rattle.sheet.specs.Listing.{Listing}
use Rattle.sheet.specs.Returned.{Returned, accepted, refusal}
use Rattle.sheet.proofs.Lent as ending
use Rattle.rule.specs.declared.Row.{Row}
use Rattle.rule.specs.Selection.{roll_of}
use Rattle.row.specs.Written.{Written}
use Rattle.shapefile.specs.declared.Layer.{Layer}
use Rattle.shapefile.specs.declared.Part.{Part}
use Rattle.shapefile.specs.declared.Passage.{Passage}
use Rattle.shapefile.specs.Files.{file_of}
use Rattle.shape_files.specs.Exported.{Exports}
use Rattle.shape_files.proofs.Whole.{of_same}
use Rattle.passages.specs.Passages.{passages_of}
use Rattle.passages.specs.InFront.{InFront}
use Rattle.shape_layers.specs.Layers.{layer_file}

-- what a run leaves
pub in_front : {rows : List Row} {before exit : List ℕ} → Written rows before exit → InFront rows exit
in_front w = record { rest = _; is = w.is }

module _ (layer : Layer) (part : Part) where
  -- of the ways of a sheet's tips
  pub of_ways : (S : Listing) {l : List Passage} {before exit : List ℕ} {r : Result ℕ Refusal} → l ≡ passages_of S.tracks (roll_of S) → Exports accepted (file_of layer part l) before exit r → Exports accepted (layer_file layer part S) before exit r
  unfolding layer_file
  of_ways S e h = of_same (ap (file_of layer part) e) h

  -- of the same records
  pub of_listing : {S T : Listing} {v : Returned} {before exit : List ℕ} {r : Result ℕ Refusal} → S ≡ T → Exports v (layer_file layer part S) before exit r → Exports v (layer_file layer part T) before exit r
  of_listing e h = of_same (ap (layer_file layer part) e) h

-- as the sheet is refused
pub as_refused : (file before : List ℕ) {v : Returned} (r : Refusal) → v ≡ refusal r → Exports v file before before (Err r)
as_refused file before r e = let (a, b) = ending.as_refused file before (length file) (length file) e in record { answer = a; buffer = b }

-- as an accepted sheet goes on
pub as_accepted : (file : List ℕ) {v : Returned} {before exit : List ℕ} {r : Result ℕ Refusal} → v ≡ accepted → Exports accepted file before exit r → Exports v file before exit r
as_accepted file {v} {before} {exit} {r} e h = subst (λ (z : Returned). Exports z file before exit r) (sym e) h
