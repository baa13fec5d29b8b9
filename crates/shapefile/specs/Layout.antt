-- The bytes of a shapefile's header and records (SHEETS 12.2 to 12.5, 12.7), as the ESRI Shapefile Technical Description of July 1998 has them. A double stands here as its bit pattern.
use Rattle.std.specs.Prelude.{List, ◌++◌, ℕ, ◌/◌, length}
use Rattle.byte_order.specs.Bytes.{le_bytes}
use Rattle.byte_order.specs.Orders.{be_bytes}

-- an integer of 32 bits, high or low byte first, and a double, always low byte first (SHEETS 12.2)
abbrev pub big : ℕ → List ℕ
big v = be_bytes 4 v

abbrev pub little : ℕ → List ℕ
little v = le_bytes 4 v

abbrev pub double : ℕ → List ℕ
double p = le_bytes 8 p

-- lengths and offsets count words of two bytes (SHEETS 12.2)
abbrev pub words : List ℕ → ℕ
words l = length l / 2

-- least x, least y, greatest x, greatest y (SHEETS 12.6)
unfoldable pub box_bytes : ℕ → ℕ → ℕ → ℕ → List ℕ
box_bytes left low right high = double left ++ (double low ++ (double right ++ double high))

-- the file code, five unused integers, the file's length in words, the version, the shape type, the box, and four unused doubles for Z and M (SHEETS 12.2)
unfoldable pub header : ℕ → ℕ → List ℕ → List ℕ
header type len box = (big 9994 ++ (le_bytes 20 0 ++ (big len ++ (little 1000 ++ little type)))) ++ (box ++ le_bytes 32 0)

-- ---- contents of a record, the shape type first

-- the null shape (SHEETS 12.5)
unfoldable pub null_content : List ℕ
null_content = little 0

unfoldable pub point_bytes : ℕ → ℕ → List ℕ
point_bytes x y = double x ++ double y

-- a Point (SHEETS 12.4)
unfoldable pub point_content : ℕ → ℕ → List ℕ
point_content x y = little 1 ++ point_bytes x y

-- a PolyLine (SHEETS 12.5): its box, one part of two points, which begins at point 0, and the points
unfoldable pub line_content : List ℕ → ℕ → ℕ → ℕ → ℕ → List ℕ
line_content box x y u v = little 3 ++ (box ++ ((little 1 ++ (little 2 ++ little 0)) ++ (point_bytes x y ++ point_bytes u v)))

-- a record: its number, the length of its contents in words, the contents (SHEETS 12.3)
unfoldable pub record_bytes : ℕ → List ℕ → List ℕ
record_bytes number content = big number ++ (big (words content) ++ content)
