-- Figures one behind the other, as the loops take them.
use Prim.Native.Nat.{ℕ, ◌<◌, ◌+◌}
use mathlib.Core.Path.{◌≡◌, refl, sym, ap, ◌∙◌}
use mathlib.Core.List.{List, [], ◌∷◌, ◌++◌, map, map-append, append_assoc}
use native.Mathlib.Numerals.{add-one}
use native.Mathlib.Omega.{arith}
use lib.ListN.{length, get_or, take, drop, length-append}
use lib.Seq.{sets, drop-cons, drop-length, take-suc, take_all}
use Rattle.byte_order.proofs.Stores.{sets-both}
use Rattle.shapefile.specs.Extent.{Point}
use Rattle.byte_order.proofs.Orders.{be_length}
use Rattle.shapefile.specs.Layout.{record_bytes, big, words}
use Rattle.shapefile.specs.Figures.{Figure, content, points, points_of}
use Rattle.shapefile.specs.Files.{records_from, entries_from}
use Rattle.shapefile.proofs.Lengths.{record_length}
use Rattle.shape_records.specs.declared.Shape.{Shape}
use Rattle.shape_records.specs.Shapes.{in_doubles, content_of, NarrowFigure}
use Rattle.shape_records.proofs.Contents.{content_is}
use Rattle.shapefile.specs.declared.Layer.{Layer}
use Rattle.shapefile.specs.declared.Passage.{Passage}
use Rattle.shapefile.specs.Files.{figure, figures}

-- what stands past the end of an array of passages
abbrev pub no_passage : Passage
no_passage = record { x = 0; y = 0; u = 0; v = 0 }

-- a figure's shape has the figure's contents
pub drawn : {s : Shape} (f : Figure) → (s ≡ in_doubles f) × NarrowFigure f → content_of s ≡ content f
drawn f h = ap content_of h.0 ∙ content_is f h.1

module _ (k : Layer) (ps : List Passage) where
  -- ---- from the front: the points so far

  abbrev pub so_far : ℕ → List Point
  so_far i = points_of (figures k (take i ps))

  points_snoc : (l : List Figure) (f : Figure) → points_of (l ++ (f ∷ [])) ≡ points_of l ++ points f
  unfolding points_of
  points_snoc [] f = append-nil (points f)
    where
      append-nil : (m : List Point) → m ++ [] ≡ m
      append-nil [] = refl
      append-nil (p ∷ m) = ap (λ s. p ∷ s) (append-nil m)
  points_snoc (g ∷ l) f = ap (λ s. points g ++ s) (points_snoc l f) ∙ sym (append_assoc (points g) (points_of l) (points f))

  pub so_far_more : (i : ℕ) → i < length ps → so_far (i + 1) ≡ so_far i ++ points (figure k (get_or ps i no_passage))
  unfolding figures
  so_far_more i h = rw (add-one, take-suc ps i no_passage, map-append) (points_snoc (map (figure k) (take i ps)) (figure k (get_or ps i no_passage)))

  pub so_far_none : so_far 0 ≡ []
  unfolding figures points_of
  so_far_none = refl

  pub so_far_all : so_far (length ps) ≡ points_of (figures k ps)
  so_far_all = ap (λ l. points_of (figures k l)) (take_all (length ps) ps (omega arith))

  -- ---- from the back: the records yet to store

  abbrev pub rest : ℕ → List ℕ
  rest i = records_from (i + 1) (figures k (drop i ps))

  pub rest_none : rest (length ps) ≡ []
  unfolding figures records_from
  rest_none = ap (λ l. records_from (length ps + 1) (map (figure k) l)) (drop-length ps)

  module _ (i : ℕ) (h : i < length ps) where
    abbrev next_one : List ℕ
    next_one = content (figure k (get_or ps i no_passage))

    one : rest i ≡ record_bytes (i + 1) next_one ++ rest (i + 1)
    unfolding figures records_from
    one = rw (drop-cons ps i no_passage, add-one)

    pub rest-length : length (rest i) ≡ 8 + length next_one + length (rest (i + 1))
    rest-length = rw one (length-append (record_bytes (i + 1) next_one) (rest (i + 1)) ∙ ap (λ j. j + length (rest (i + 1))) (record_length (i + 1) next_one))

    pub rest_more : (l : List ℕ) (at : ℕ) → sets (sets l at (record_bytes (i + 1) next_one)) (at + (8 + length next_one)) (rest (i + 1)) ≡ sets l at (rest i)
    rest_more l at =
        let e : at + (8 + length next_one) ≡ at + length (record_bytes (i + 1) next_one) = omega (arith, record_length (i + 1) next_one) in
        rw (e, one) (sets-both (record_bytes (i + 1) next_one) (rest (i + 1)) l at)

  -- ---- the same of index entries, the first of them for offset o

  abbrev pub left_over : ℕ → ℕ → List ℕ
  left_over o i = entries_from o (figures k (drop i ps))

  pub left_none : (o : ℕ) → left_over o (length ps) ≡ []
  unfolding figures entries_from
  left_none o = ap (λ l. entries_from o (map (figure k) l)) (drop-length ps)

  module _ (i : ℕ) (h : i < length ps) (o : ℕ) where
    abbrev entry-words : ℕ
    entry-words = words (content (figure k (get_or ps i no_passage)))

    entry : left_over o i ≡ (big o ++ big entry-words) ++ left_over (o + (4 + entry-words)) (i + 1)
    unfolding figures entries_from
    entry = rw (drop-cons ps i no_passage, add-one)

    pub left-more : (l : List ℕ) (at : ℕ) → sets (sets l at (big o ++ big entry-words)) (at + 8) (left_over (o + (4 + entry-words)) (i + 1)) ≡ sets l at (left_over o i)
    left-more l at =
        let s : length (big o ++ big entry-words) ≡ 8 = simp (length-append, be_length) in
        let e : at + 8 ≡ at + length (big o ++ big entry-words) = omega arith in
        rw (e, entry) (sets-both (big o ++ big entry-words) (left_over (o + (4 + entry-words)) (i + 1)) l at)
