-- What program `shapes` has ready before it writes: names and bytes of files (SHEETS 12.9).
use Rattle.std.specs.Prelude.{◌≡◌, cond, List, [], ◌++◌, ℕ, ◌≤◌, ltb, length, take}
use Rattle.sheet.specs.Listing.{listing}
use Rattle.sheet.specs.Returned.{Returned, accepted, gives, refused}
use Rattle.sheet.specs.Scan.{verdict_of, commands_of}
use Rattle.shapefile.specs.declared.Layer.{Layer}
use Rattle.shapefile.specs.declared.Part.{Part}
use Rattle.shape_files.specs.Exported.{file_returns}
use Rattle.shape_layers.specs.Layers.{layer_file}

-- some bytes at the start of a buffer, n of them
pub record Starts (bytes buffer : List ℕ) (n : ℕ) : Type 0 where
  pub are : take n buffer ≡ bytes
  pub in_buffer : n ≤ length buffer

-- a name of two parts, where there is room for it
unfoldable pub name_of : List ℕ → List ℕ → ℕ → List ℕ
name_of base ending room = cond (ltb room (length (base ++ ending))) [] (base ++ ending)

-- the file where the call gives one
unfoldable pub if_given : Returned → List ℕ → List ℕ
if_given accepted file = []
if_given (gives n) file = file
if_given (refused n p) file = []

-- the file of a layer of a sheet's roll, where the sheet is accepted and there is room for it
abbrev pub bytes_of : Layer → Part → List ℕ → ℕ → List ℕ
bytes_of layer part s room =
    let file = layer_file layer part (listing (commands_of s)) in
    if_given (file_returns (verdict_of s) file room) file
