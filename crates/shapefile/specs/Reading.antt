-- What a reader of a layer's two files finds at the places where the ESRI Description has it look (SHEETS 12.2 to 12.8). That it finds this in the files of Files.antt is `layered` in proofs/Reading.antt.
use Rattle.std.specs.Prelude.{◌≡◌, false, ℕ, ◌+◌, ◌*◌, ◌^◌, ◌≤◌, ◌<◌, length, take, drop, replicate}
use mathlib.Core.List.{List, [], ◌∷◌, Memᴰ}
use Rattle.std.specs.Float.{binary64}
use Rattle.std.specs.Float.Ieee.{of_bits}
use Rattle.std.specs.Float.Ieee.Exact.{HasValue}
use Rattle.byte_order.specs.Bytes.{le_of}
use Rattle.byte_order.specs.Orders.{be_of}
use Rattle.shapefile.specs.declared.Passage.{Passage}
use Rattle.shapefile.specs.Extent.{Point, Extent}
use Rattle.shapefile.specs.Figures.{Figure, end, trace, points_of}

-- ---- points and boxes

-- the double at place `at` is exactly n / 64 (SHEETS 12.8)
abbrev pub Is64ths : List ℕ → ℕ → ℕ → Type 0
Is64ths s at n = HasValue (of_bits binary64 (le_of 8 s at)) false n 64

pub record PointAt (s : List ℕ) (at : ℕ) (p : Point) : Type 0 where
  pub x : Is64ths s at p.x
  pub y : Is64ths s (at + 8) p.y

infix 50 ◌∈◌
abbrev pub ◌∈◌ : {A : Type 0} → A → List A → Type 0
a ∈ l = Memᴰ a l

-- p does not lie outside e
pub record Inside (e : Extent) (p : Point) : Type 0 where
  pub left : e.left ≤ p.x
  pub right : p.x ≤ e.right
  pub low : e.low ≤ p.y
  pub high : p.y ≤ e.high

-- a point of l has this coordinate
abbrev pub Has : List Point → (Point → ℕ) → ℕ → Type 0
Has l g n = (p : Point) × (p ∈ l) × (n ≡ g p)

-- on each side of e lies a point of l
pub record Reached (l : List Point) (e : Extent) : Type 0 where
  pub left : Has l (λ p. p.x) e.left
  pub low : Has l (λ p. p.y) e.low
  pub right : Has l (λ p. p.x) e.right
  pub high : Has l (λ p. p.y) e.high

-- e is the least and greatest x and y over the points of l; zeros where it has none (SHEETS 12.6)
pub data LeastBox : List Point → Extent → Type 0 where
  none : LeastBox [] (record { left = 0; low = 0; right = 0; high = 0 })
  some : {l : List Point} {e : Extent} → ((p : Point) → p ∈ l → Inside e p) → Reached l e → LeastBox l e

-- the box of l: least x, least y, greatest x, greatest y (SHEETS 12.6)
pub record BoxAt (s : List ℕ) (at : ℕ) (l : List Point) : Type 0 where
  pub box : Extent
  pub least : LeastBox l box
  pub left : Is64ths s at box.left
  pub low : Is64ths s (at + 8) box.low
  pub right : Is64ths s (at + 16) box.right
  pub high : Is64ths s (at + 24) box.high

-- ---- the header

-- of a file s: the file code, the length in words of the whole file, the version, the type of its shapes, the box of its points l; the unused bytes are zeros (SHEETS 12.2)
pub record HeaderAt (type : ℕ) (l : List Point) (s : List ℕ) : Type 0 where
  pub code : be_of 4 s 0 ≡ 9994
  pub unused : take 20 (drop 4 s) ≡ replicate 20 0
  pub whole : 2 * be_of 4 s 24 ≡ length s
  pub version : le_of 4 s 28 ≡ 1000
  pub shapes : le_of 4 s 32 ≡ type
  pub box : BoxAt s 36 l
  pub ranges : take 32 (drop 68 s) ≡ replicate 32 0

-- ---- the records

-- a figure's contents from place `at` on, the shape type first, and how many words they take
pub data ShapeAt (s : List ℕ) (at : ℕ) : Figure → ℕ → Type 0 where
  -- a Point (SHEETS 12.4)
  point : {x y : ℕ} → le_of 4 s at ≡ 1 → PointAt s (at + 4) (record { x = x; y = y }) → ShapeAt s at (end x y) 10
  -- the null shape (SHEETS 12.5)
  null : {x y u v : ℕ} → x ≡ u → y ≡ v → le_of 4 s at ≡ 0 → ShapeAt s at (trace x y u v) 2
  -- a PolyLine: its box, one part, two points, the part from point 0 on, the points (SHEETS 12.5, 12.6)
  line :
      {x y u v : ℕ} → ¬ ((x ≡ u) × (y ≡ v)) → le_of 4 s at ≡ 3 → BoxAt s (at + 4) (record { x = x; y = y } ∷ record { x = u; y = v } ∷ [])
      → le_of 4 s (at + 36) ≡ 1 → le_of 4 s (at + 40) ≡ 2 → le_of 4 s (at + 44) ≡ 0
      → PointAt s (at + 48) (record { x = x; y = y }) → PointAt s (at + 64) (record { x = u; y = v }) → ShapeAt s at (trace x y u v) 40

-- the record of f, behind k others: it begins `at` words into the main file, and its contents take `size` words, as its entry of the index says too (SHEETS 12.3, 12.7)
pub record RecordAt (main index : List ℕ) (k at size : ℕ) (f : Figure) : Type 0 where
  pub index_offset : be_of 4 index (100 + 8 * k) ≡ at
  pub index_size : be_of 4 index (104 + 8 * k) ≡ size
  pub main_number : be_of 4 main (2 * at) ≡ k + 1
  pub main_size : be_of 4 main (2 * at + 4) ≡ size
  pub shape : ShapeAt main (2 * at + 8) f size

-- the records of l, behind k others: the first begins `at` words into the main file, each of the others where the one before it ends, and both files end with the last (SHEETS 12.3, 12.7)
pub data Records (main index : List ℕ) : ℕ → ℕ → List Figure → Type 0 where
  ends : {k at : ℕ} → length main ≡ 2 * at → length index ≡ 100 + 8 * k → Records main index k at []
  next : {k at size : ℕ} {f : Figure} {l : List Figure} → RecordAt main index k at size f → Records main index (k + 1) (at + (4 + size)) l → Records main index k at (f ∷ l)

-- ---- the files

-- the records begin behind the header's 50 words; the index has the main file's box (SHEETS 12.2, 12.7)
pub record Layered (type : ℕ) (l : List Figure) (main index : List ℕ) : Type 0 where
  pub main_header : HeaderAt type (points_of l) main
  pub index_header : HeaderAt type (points_of l) index
  pub records : Records main index 0 50 l

-- ---- what doubles hold exactly: coordinates of at most 32 bits

abbrev pub NarrowPoints : List Point → Type 0
NarrowPoints l = (p : Point) → p ∈ l → (p.x < 2 ^ 32) × (p.y < 2 ^ 32)

pub record NarrowPassage (p : Passage) : Type 0 where
  pub x : p.x < 2 ^ 32
  pub y : p.y < 2 ^ 32
  pub u : p.u < 2 ^ 32
  pub v : p.v < 2 ^ 32
