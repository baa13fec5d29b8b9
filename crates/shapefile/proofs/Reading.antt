-- A reader of a layer's two files finds its figures. Main theorems: `layered`; `layer_read`, the same of some tips' ways; `kth`, a record is found through the index alone.
use Prim.Native.Nat.{ℕ, zero, suc, ◌+◌, ◌*◌, ◌^◌, ◌≤◌, ◌<◌}
use mathlib.Core.Path.{◌≡◌, refl, ap, ◌∙◌}
use mathlib.Core.Bool.{Bool, true, false, ◌&&◌, cond}
use mathlib.Core.List.Memᴰ
use mathlib.Core.List.{List, [], ◌∷◌, ◌++◌}
use mathlib.Core.Logic.{◌⊎◌, inl, inr}
use native.Mathlib.Omega.{arith}
use borrow.Author.Tests.{eqb-true, eq-eqb}
use lib.Dec.{eqb}
use lib.ListN.{length, get_or, replicate, length-append, length-map}
use Rattle.byte_order.specs.Bytes.{le_bytes}
use Rattle.byte_order.specs.Orders.{be_bytes, be_of}
use Rattle.byte_order.proofs.Bytes.{le_length}
use Rattle.byte_order.proofs.Orders.{be_length}
use Rattle.doubles.specs.Doubles.{double_bits}
use Rattle.shapefile.specs.declared.Layer.{Layer}
use Rattle.shapefile.specs.declared.Layer.TheVariants.{Traces, Ends}
use Rattle.shapefile.specs.declared.Part.TheVariants.{Main, Index}
use Rattle.shapefile.specs.declared.Passage.{Passage}
use Rattle.shapefile.specs.Extent.{Point, Extent, extent}
use Rattle.shapefile.specs.Layout.{words, header, null_content, point_bytes, point_content, line_content, record_bytes}
use Rattle.shapefile.specs.Figures.{Figure, end, trace, nowhere, points, points_of, extent_bytes, content}
use Rattle.shapefile.specs.Files.{records_from, main_file, entries_from, index_file, type_of, figure, figures, file_of}
use Rattle.shapefile.specs.Reading.{◌∈◌, HeaderAt, ShapeAt, point, null, line, RecordAt, Records, ends, next, Layered, NarrowPoints, NarrowPassage}
use Rattle.shapefile.proofs.Lengths.{box_length, point_length, null_content_length, point_content_length, line_content_length, header-length, record_length}
use Rattle.shapefile.proofs.ReadingFields.{Stands, all_stands, first, then, then_le, then_be, le_at, be_at, bytes-at, point_at, box_at}

extent-length : (e : Extent) → length (extent_bytes e) ≡ 32
unfolding extent_bytes
extent-length e = box_length (double_bits e.left) (double_bits e.low) (double_bits e.right) (double_bits e.high)

-- ---- the header

zeros : le_bytes 20 0 ≡ replicate 20 0
unfolding le_bytes
zeros = refl

more-zeros : le_bytes 32 0 ≡ replicate 32 0
unfolding le_bytes
more-zeros = refl

header_at :
    {s : List ℕ} (type len : ℕ) (l : List Point) → type < 2 ^ 32 → len < 2 ^ 32 → NarrowPoints l
    → 2 * len ≡ length s → Stands s 0 (header type len (extent_bytes (extent l))) → HeaderAt type l s
unfolding header
header_at {s} type len l ht hl n e h =
    let box = extent_bytes (extent l) in
    let b5 = le_bytes 4 type in
    let b4 = le_bytes 4 1000 ++ b5 in
    let b3 = be_bytes 4 len ++ b4 in
    let b2 = le_bytes 20 0 ++ b3 in
    let b1 = be_bytes 4 9994 ++ b2 in
    let h1 = first b1 (box ++ le_bytes 32 0) h in
    let h2 = then_be 4 9994 b2 4 (omega arith) h1 in
    let h3 = then_le 20 0 b3 24 (omega arith) h2 in
    let h4 = then_be 4 len b4 28 (omega arith) h3 in
    let h5 = then_le 4 1000 b5 32 (omega arith) h4 in
    let h6 = then b1 (box ++ le_bytes 32 0) 36 (simp (length-append, le_length, be_length)) h in
    let h7 = then box (le_bytes 32 0) 68 (rw extent-length (omega arith)) h6 in
    record {
      code = be_at 4 9994 (omega arith) (first (be_bytes 4 9994) b2 h1);
      unused = bytes-at 20 0 (first (le_bytes 20 0) b3 h2) ∙ zeros;
      whole = ap (λ (z : ℕ). 2 * z) (be_at 4 len hl (first (be_bytes 4 len) b4 h3)) ∙ e;
      version = le_at 4 1000 (omega arith) (first (le_bytes 4 1000) b5 h4);
      shapes = le_at 4 type ht h5;
      box = box_at l n (first box (le_bytes 32 0) h6);
      ranges = bytes-at 32 0 h7 ∙ more-zeros;
    }

-- ---- the contents of a record

same : (x y u v : ℕ) → nowhere x y u v ≡ true → (x ≡ u) × (y ≡ v)
same x y u v = go (eqb x u) (eqb y v) refl refl
  where
    go : (a b : Bool) → eqb x u ≡ a → eqb y v ≡ b → a && b ≡ true → (x ≡ u) × (y ≡ v)
    go true true p q e = (eqb-true x u p, eqb-true y v q)
    go true false p q e = let z : ◌≡◌ {A = ℕ} 0 1 = cc in absurd (omega arith)
    go false b p q e = let z : ◌≡◌ {A = ℕ} 0 1 = cc in absurd (omega arith)

other : (x y u v : ℕ) → nowhere x y u v ≡ false → (x ≡ u) × (y ≡ v) → ⊥
other x y u v e h = let z : ◌≡◌ {A = ℕ} 0 1 = cc (eq-eqb x u h.0, eq-eqb y v h.1) in omega arith

module _ {s : List ℕ} {at : ℕ} where
  end_at : (x y : ℕ) → (x < 2 ^ 32) × (y < 2 ^ 32) → Stands s at (point_content (double_bits x) (double_bits y)) → ShapeAt s at (end x y) 10
  unfolding point_content
  end_at x y n h =
      let b = point_bytes (double_bits x) (double_bits y) in
      point (le_at 4 1 (omega arith) (first (le_bytes 4 1) b h)) (point_at (record { x = x; y = y }) n (then_le 4 1 b (at + 4) refl h))

  null_at : (x y u v : ℕ) → (x ≡ u) × (y ≡ v) → Stands s at null_content → ShapeAt s at (trace x y u v) 2
  unfolding null_content
  null_at x y u v e h = null e.0 e.1 (le_at 4 0 (omega arith) h)

  line_at :
      (x y u v : ℕ) → ((x ≡ u) × (y ≡ v) → ⊥) → NarrowPoints (record { x = x; y = y } ∷ record { x = u; y = v } ∷ [])
      → Stands s at (line_content (extent_bytes (extent (record { x = x; y = y } ∷ record { x = u; y = v } ∷ []))) (double_bits x) (double_bits y) (double_bits u) (double_bits v))
      → ShapeAt s at (trace x y u v) 40
  unfolding line_content
  line_at x y u v e n h =
      let p : Point = record { x = x; y = y } in
      let q : Point = record { x = u; y = v } in
      let box = extent_bytes (extent (p ∷ q ∷ [])) in
      let b6 = point_bytes (double_bits u) (double_bits v) in
      let b5 = point_bytes (double_bits x) (double_bits y) in
      let b4 = le_bytes 4 2 ++ le_bytes 4 0 in
      let b3 = le_bytes 4 1 ++ b4 in
      let b2 = b3 ++ (b5 ++ b6) in
      let b1 = box ++ b2 in
      let h1 = then_le 4 3 b1 (at + 4) refl h in
      let h2 = then box b2 (at + 36) (rw extent-length (omega arith)) h1 in
      let h3 = first b3 (b5 ++ b6) h2 in
      let h4 = then_le 4 1 b4 (at + 40) (omega arith) h3 in
      let h5 = then_le 4 2 (le_bytes 4 0) (at + 44) (omega arith) h4 in
      let h6 = then b3 (b5 ++ b6) (at + 48) (simp (length-append, le_length) (omega arith)) h2 in
      let h7 = then b5 b6 (at + 64) (rw point_length (omega arith)) h6 in
      line e
      (le_at 4 3 (omega arith) (first (le_bytes 4 3) b1 h))
      (box_at (p ∷ q ∷ []) n (first box b2 h1))
      (le_at 4 1 (omega arith) (first (le_bytes 4 1) b4 h3))
      (le_at 4 2 (omega arith) (first (le_bytes 4 2) (le_bytes 4 0) h4))
      (le_at 4 0 (omega arith) h5)
      (point_at p (n p (Memᴰ.head refl)) (first b5 b6 h6))
      (point_at q (n q (Memᴰ.tail (Memᴰ.head refl))) h7)

-- the contents of f take some words, and are read so wherever they stand
record Contents (f : Figure) : Type 0 where
  size : ℕ
  small : size ≤ 40
  twice : length (content f) ≡ 2 * size
  at_place : {s : List ℕ} {at : ℕ} → NarrowPoints (points f) → Stands s at (content f) → ShapeAt s at f size

contents : (f : Figure) → Contents f
unfolding content points
contents (end x y) =
    record {
      size = 10;
      small = omega arith;
      twice = point_content_length (double_bits x) (double_bits y);
      at_place = λ n h. end_at x y (n (record { x = x; y = y }) (Memᴰ.head refl)) h;
    }
contents (trace x y u v) = go (nowhere x y u v) refl
  where
    go : (t : Bool) → nowhere x y u v ≡ t → Contents (trace x y u v)
    go true e =
        record {
          size = 2;
          small = omega arith;
          twice = rw e null_content_length;
          at_place = λ n h. null_at x y u v (same x y u v e) (rw e at h);
        }
    go false e =
        record {
          size = 40;
          small = omega arith;
          twice = rw e (line_content_length _ (double_bits x) (double_bits y) (double_bits u) (double_bits v) (extent-length _));
          at_place = λ n h. line_at x y u v (other x y u v e) (rw e at n) (rw e at h);
        }

abbrev words_of : Figure → ℕ
words_of f = words (content f)

is_size : (f : Figure) → words_of f ≡ (contents f).size
is_size f = let e = (contents f).twice in omega arith

whole_words : (f : Figure) → length (content f) ≡ 2 * words_of f
whole_words f = let e = (contents f).twice in omega arith

few_words : (f : Figure) → words_of f ≤ 40
few_words f = let e = (contents f).small in rw is_size e

-- ---- the records

records-length : (k : ℕ) (l : List Figure) → (n : ℕ) × (length (records_from k l) ≡ 2 * n) × (n ≤ 44 * length l)
unfolding records_from
records-length k [] = (0, refl, omega arith)
records-length k (f ∷ l) =
    let r = records-length (k + 1) l in
    let w = words_of f in
    (w + (4 + r.0), rw (length-append, record_length, whole_words, r.1) (omega arith), omega (arith, few_words f, r.2))

entries_length : (k : ℕ) (l : List Figure) → length (entries_from k l) ≡ 8 * length l
unfolding entries_from
entries_length k [] = refl
entries_length k (f ∷ l) = let e = entries_length (k + (4 + words_of f)) l in simp (length-append, be_length, e) (omega arith)

module _ {main index : List ℕ} where
  record_at :
      (f : Figure) (k at : ℕ) → NarrowPoints (points f) → at < 2 ^ 32 → k < 256 → Stands main (2 * at) (record_bytes (k + 1) (content f))
      → Stands index (100 + 8 * k) (be_bytes 4 at ++ be_bytes 4 (words_of f)) → RecordAt main index k at (words_of f) f
  unfolding record_bytes
  record_at f k at n ha hk h g =
      let w = words_of f in
      let l : w < 2 ^ 32 = omega (arith, few_words f) in
      let b = be_bytes 4 w ++ content f in
      let h1 = then_be 4 (k + 1) b (2 * at + 4) refl h in
      let h2 = then_be 4 w (content f) (2 * at + 8) (omega arith) h1 in
      record {
        index_offset = be_at 4 at ha (first (be_bytes 4 at) (be_bytes 4 w) g);
        index_size = be_at 4 w l (then_be 4 at (be_bytes 4 w) (104 + 8 * k) (omega arith) g);
        main_number = be_at 4 (k + 1) (omega arith) (first (be_bytes 4 (k + 1)) b h);
        main_size = be_at 4 w l (first (be_bytes 4 w) (content f) h1);
        shape = rw is_size ((contents f).at_place n h2);
      }

  records :
      (l : List Figure) (k at : ℕ) → NarrowPoints (points_of l) → k + length l ≤ 256 → at + 44 * length l < 2 ^ 32
      → length main ≡ 2 * at + length (records_from (k + 1) l) → length index ≡ 100 + 8 * (k + length l)
      → Stands main (2 * at) (records_from (k + 1) l) → Stands index (100 + 8 * k) (entries_from at l) → Records main index k at l
  unfolding records_from entries_from points_of
  records [] k at n hk ha em ei h g = ends {k = k} {at = at} (omega arith) (omega arith)
  records (f ∷ l) k at n hk ha em ei h g =
      let w = words_of f in
      let b = record_bytes (k + 1) (content f) in
      let r = records_from (k + 1 + 1) l in
      let c = be_bytes 4 at ++ be_bytes 4 w in
      let t = entries_from (at + (4 + w)) l in
      let lb : length b ≡ 8 + 2 * w = record_length (k + 1) (content f) ∙ ap (λ (z : ℕ). 8 + z) (whole_words f) in
      let lc : length c ≡ 8 = simp (length-append, be_length) in
      next
      (record_at f k at (λ p m. n p (Memᴰ.append_left (points_of l) m)) (omega arith) (omega arith) (first b r h) (first c t g))
      (records l (k + 1) (at + (4 + w)) (λ p m. n p (Memᴰ.append_right (points f) m)) (omega arith) (omega (arith, few_words f)) (omega (arith, length-append b r)) (omega arith)
      (then b r (2 * (at + (4 + w))) (omega arith) h) (then c t (100 + 8 * (k + 1)) (omega arith) g))

-- ---- the files

pub layered : (type : ℕ) (l : List Figure) → type < 2 ^ 32 → length l ≤ 256 → NarrowPoints (points_of l) → Layered type l (main_file type l) (index_file type l)
unfolding main_file index_file
layered type l ht hl n =
    let main = main_file type l in
    let index = index_file type l in
    let box = extent_bytes (extent (points_of l)) in
    let r = records_from 1 l in
    let t = entries_from 50 l in
    let hm = header type (50 + words r) box in
    let hi = header type (50 + 4 * length l) box in
    let r2 = records-length 1 l in
    let e2 = r2.1 in
    let l2 = r2.2 in
    let lm : length hm ≡ 100 = header-length type (50 + words r) box (extent-length (extent (points_of l))) in
    let li : length hi ≡ 100 = header-length type (50 + 4 * length l) box (extent-length (extent (points_of l))) in
    let am : length main ≡ 100 + length r = length-append hm r ∙ ap (λ (z : ℕ). z + length r) lm in
    let ai : length index ≡ 100 + 8 * length l = length-append hi t ∙ ap (λ (z : ℕ). z + length t) li ∙ ap (λ (z : ℕ). 100 + z) (entries_length 50 l) in
    record {
      main_header = header_at type (50 + words r) (points_of l) ht (omega arith) n (omega arith) (first hm r (all_stands main));
      index_header = header_at type (50 + 4 * length l) (points_of l) ht (omega arith) n (omega arith) (first hi t (all_stands index));
      records = records l 0 50 n (omega arith) (omega arith) am (omega arith) (then hm r 100 (omega arith) (all_stands main)) (then hi t 100 (omega arith) (all_stands index));
    }

-- through the index: record k, wherever the entry says that it begins
found :
    {main index : List ℕ} {j at : ℕ} {l : List Figure} → Records main index j at l → (k : ℕ) (d : Figure) → k < length l
    → RecordAt main index (j + k) (be_of 4 index (100 + 8 * (j + k))) (be_of 4 index (104 + 8 * (j + k))) (get_or l k d)
found (ends e i) k d h = absurd (omega arith)
found (next {k = j} r t) zero d h = let e : j + 0 ≡ j = omega arith in rw (e, r.index_offset, r.index_size) r
found (next {k = j} r t) (suc k) d h = let e : j + suc k ≡ j + 1 + k = omega arith in rw e (found t k d (omega arith))

pub kth :
    {type : ℕ} {l : List Figure} {main index : List ℕ} → Layered type l main index → (k : ℕ) (d : Figure) → k < length l
    → RecordAt main index k (be_of 4 index (100 + 8 * k)) (be_of 4 index (104 + 8 * k)) (get_or l k d)
kth r k d h = let e : 0 + k ≡ k = omega arith in rw e at (found r.records k d h)

-- ---- the files of some tips' ways

narrow_none : NarrowPoints []
narrow_none p m = absurd (Memᴰ.not-nil m)

narrow_more : (q : Point) (l : List Point) → (q.x < 2 ^ 32) × (q.y < 2 ^ 32) → NarrowPoints l → NarrowPoints (q ∷ l)
narrow_more q l h n p m = go (Memᴰ.cases_cons m)
  where
    go : (p ≡ q) ⊎ (p ∈ l) → (p.x < 2 ^ 32) × (p.y < 2 ^ 32)
    go (inl e) = rw e h
    go (inr i) = n p i

narrow_both : (a b : List Point) → NarrowPoints a → NarrowPoints b → NarrowPoints (a ++ b)
narrow_both a b n o p m = go (Memᴰ.append_cases a m)
  where
    go : (p ∈ a) ⊎ (p ∈ b) → (p.x < 2 ^ 32) × (p.y < 2 ^ 32)
    go (inl i) = n p i
    go (inr i) = o p i

narrow_figure : (layer : Layer) (p : Passage) → NarrowPassage p → NarrowPoints (points (figure layer p))
unfolding points figure
narrow_figure Ends p n = narrow_more _ [] (n.u, n.v) narrow_none
narrow_figure Traces p n = go (nowhere p.x p.y p.u p.v)
  where
    go : (t : Bool) → NarrowPoints (cond t [] (record { x = p.x; y = p.y } ∷ record { x = p.u; y = p.v } ∷ []))
    go true = narrow_none
    go false = narrow_more _ _ (n.x, n.y) (narrow_more _ [] (n.u, n.v) narrow_none)

narrow_figures : (layer : Layer) (l : List Passage) → ((p : Passage) → p ∈ l → NarrowPassage p) → NarrowPoints (points_of (figures layer l))
unfolding points_of figures
narrow_figures layer [] n = narrow_none
narrow_figures layer (p ∷ l) n =
    narrow_both (points (figure layer p)) (points_of (figures layer l)) (narrow_figure layer p (n p (Memᴰ.head refl)))
    (narrow_figures layer l (λ q m. n q (Memᴰ.tail m)))

type_small : (layer : Layer) → type_of layer < 2 ^ 32
unfolding type_of
type_small Traces = omega arith
type_small Ends = omega arith

pub layer_read :
    (layer : Layer) (l : List Passage) → length l ≤ 256 → ((p : Passage) → p ∈ l → NarrowPassage p)
    → Layered (type_of layer) (figures layer l) (file_of layer Main l) (file_of layer Index l)
unfolding file_of figures
layer_read layer l h n = layered (type_of layer) (figures layer l) (type_small layer) (rw length-map h) (narrow_figures layer l n)
