-- Whole files: their lengths (`main_length`, `index_length`), what is stored (`main_put`, `index_put`) and what is returned (`short_so`, `long_so`).
use Prim.Native.Nat.{ℕ, ◌≤◌, ◌<◌, ◌+◌, ◌*◌, ◌/◌}
use mathlib.Core.Path.{subst, ◌≡◌, refl, ap, ◌∙◌}
use mathlib.Core.List.{List, [], ◌∷◌, ◌++◌}
use native.Mathlib.Omega.{arith}
use lib.ListN.{length, length-append}
use lib.Seq.{sets}
use Rattle.byte_order.proofs.Stores.{sets_front}
use Rattle.byte_order.proofs.Orders.{be_length}
use Rattle.byte_order.proofs.Stores.{two}
use Rattle.doubles.specs.Doubles.{double_bits}
use Rattle.shapefile.specs.Extent.{Extent, extent}
use Rattle.shapefile.specs.Layout.{words, header}
use Rattle.shapefile.specs.Figures.{Figure, content, extent_bytes, points_of}
use Rattle.shapefile.proofs.Lengths.{box_length, header-length}
use Rattle.shape_records.proofs.Contents.{bounds_is}
use Rattle.shapefile.specs.declared.Layer.{Layer}
use Rattle.shapefile.specs.declared.Passage.{Passage}
use Rattle.sheet.proofs.Lent as ending
use Rattle.std.specs.Prelude.{Result, Ok, Err}
use Rattle.sheet.specs.declared.Refusal.{Refusal}
use Rattle.sheet.specs.Returned.{Returned, accepted, refused, refusal}
use Rattle.shapefile.specs.declared.Part.{Part}
use Rattle.shapefile.specs.declared.Part.TheVariants.{Main, Index}
use Rattle.shapefile.specs.Files.{records_from, entries_from, main_file, index_file, type_of, figure, figures, file_of}
use Rattle.std.proofs.lemmas.List.{length-map}
use Rattle.shape_files.specs.Exported.{Begun, Exports}

-- ---- what is returned

module _ (file before : List ℕ) {k : ℕ} (e : length file ≡ k) where
  pub short_so : {r : Refusal} → length before < k → refusal r ≡ refused 12 k → Exports accepted file before before (Err r)
  short_so {r} h q = let (a, b) = ending.too_short {v = accepted} file before (length file) refl e h in record { answer = q ∙ a; buffer = b }

  pub long_so : {exit : List ℕ} → k ≤ length before → exit ≡ sets before 0 file → Exports accepted file before exit (Ok k)
  long_so h p =
      let room : length file ≤ length before = omega arith in
      let (a, b) = ending.stored {v = accepted} file before (length file) refl e room (p ∙ sets_front before file room) in
      record { answer = a; buffer = b }

-- of a file that is the same
pub of_same : {v : Returned} {file other before exit : List ℕ} {r : Result ℕ Refusal} → file ≡ other → Exports v file before exit r → Exports v other before exit r
of_same {v} {before = before} {exit} {r} e h = subst (λ (z : List ℕ). Exports v z before exit r) e h

pub the_main : {part : Part} (layer : Layer) (l : List Passage) → part ≡ Main → main_file (type_of layer) (figures layer l) ≡ file_of layer part l
unfolding file_of
the_main layer l e = rw e refl

pub the_index : {part : Part} (layer : Layer) (l : List Passage) → part ≡ Index → index_file (type_of layer) (figures layer l) ≡ file_of layer part l
unfolding file_of
the_index layer l e = rw e refl

-- ---- lengths

extent-length : (e : Extent) → length (extent_bytes e) ≡ 32
unfolding extent_bytes
extent-length e = box_length (double_bits e.left) (double_bits e.low) (double_bits e.right) (double_bits e.high)

module _ (t : ℕ) (l : List Figure) where
  head_length : (w : ℕ) → length (header t w (extent_bytes (extent (points_of l)))) ≡ 100
  head_length w = header-length t w (extent_bytes (extent (points_of l))) (extent-length (extent (points_of l)))

  pub main_length : length (main_file t l) ≡ 100 + length (records_from 1 l)
  unfolding main_file
  main_length = length-append (header t (50 + words (records_from 1 l)) (extent_bytes (extent (points_of l)))) (records_from 1 l) ∙ ap (λ k. k + length (records_from 1 l)) (head_length (50 + words (records_from 1 l)))

pub entries_length : (k : ℕ) (l : List Figure) → length (entries_from k l) ≡ 8 * length l
unfolding entries_from
entries_length k [] = refl
entries_length k (f ∷ l) =
    let e = entries_length (k + (4 + words (content f))) l in
    simp (length-append, be_length, e) (omega arith)

pub figures-length : (k : Layer) (l : List Passage) → length (figures k l) ≡ length l
unfolding figures
figures-length k l = length-map l (figure k)

pub index_length : (t : ℕ) (l : List Figure) → length (index_file t l) ≡ 100 + 8 * length l
unfolding index_file
index_length t l = length-append (header t (50 + 4 * length l) (extent_bytes (extent (points_of l)))) (entries_from 50 l) ∙ rw (head_length t l (50 + 4 * length l), entries_length 50 l) refl

pub index_size : (k : Layer) (l : List Passage) → length (index_file (type_of k) (figures k l)) ≡ 100 + 8 * length l
index_size k l = omega (arith, index_length (type_of k) (figures k l), figures-length k l)

-- ---- what is stored: the header w words on, and the rest behind it

module _ {k : Layer} {ps : List Passage} {total : ℕ} {s m n : List ℕ} (g : Begun k ps total s m) where
  behind : (r : List ℕ) → n ≡ sets m 100 r → n ≡ sets s 0 (header (type_of k) (total / 2) (extent_bytes (extent (points_of (figures k ps)))) ++ r)
  behind r q =
      let x = extent (points_of (figures k ps)) in
      two s 0 (header (type_of k) (total / 2) (extent_bytes x)) r (rw (bounds_is x g.narrow) at g.stored) q (rw (head_length (type_of k) (figures k ps) (total / 2)) refl)

  pub main_put : total / 2 ≡ 50 + words (records_from 1 (figures k ps)) → n ≡ sets m 100 (records_from 1 (figures k ps)) → n ≡ sets s 0 (main_file (type_of k) (figures k ps))
  unfolding main_file
  main_put e q = rw (← e) (behind (records_from 1 (figures k ps)) q)

  pub index_put : total / 2 ≡ 50 + 4 * length (figures k ps) → n ≡ sets m 100 (entries_from 50 (figures k ps)) → n ≡ sets s 0 (index_file (type_of k) (figures k ps))
  unfolding index_file
  index_put e q = rw (← e) (behind (entries_from 50 (figures k ps)) q)
