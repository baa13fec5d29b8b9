-- How long the parts of a shapefile are.
use Prim.Native.Nat.{ℕ, ◌+◌}
use mathlib.Core.Path.{◌≡◌}
use mathlib.Core.List.{List}
use native.Mathlib.Omega.{arith}
use lib.ListN.{length, length-append}
use Rattle.byte_order.proofs.Bytes.{le_length}
use Rattle.byte_order.proofs.Orders.{be_length}
use Rattle.shapefile.specs.Layout.{box_bytes, header, null_content, point_bytes, point_content, line_content, record_bytes}

pub box_length : (a b c d : ℕ) → length (box_bytes a b c d) ≡ 32
unfolding box_bytes
box_length a b c d = simp (length-append, le_length)

pub point_length : (x y : ℕ) → length (point_bytes x y) ≡ 16
unfolding point_bytes
point_length x y = simp (length-append, le_length)

pub null_content_length : length null_content ≡ 4
unfolding null_content
null_content_length = le_length 4 0

pub point_content_length : (x y : ℕ) → length (point_content x y) ≡ 20
unfolding point_content
point_content_length x y = simp (length-append, le_length, point_length)

pub line_content_length : (box : List ℕ) (x y u v : ℕ) → length box ≡ 32 → length (line_content box x y u v) ≡ 80
unfolding line_content
line_content_length box x y u v h = simp (length-append, le_length, point_length, h)

pub header-length : (type len : ℕ) (box : List ℕ) → length box ≡ 32 → length (header type len box) ≡ 100
unfolding header
header-length type len box h = simp (length-append, le_length, be_length, h)

pub record_length : (number : ℕ) (content : List ℕ) → length (record_bytes number content) ≡ 8 + length content
unfolding record_bytes
record_length number content = simp (length-append, be_length) (omega arith)
