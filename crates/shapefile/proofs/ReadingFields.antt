-- What stands at a place of some bytes, and what is read there: a number in either byte order (`le_at`, `be_at`), a double, a point, a box.
use Prim.Native.Nat.{ℕ, ◌+◌, ◌^◌, ◌<◌}
use mathlib.Core.Path.{◌≡◌, refl, sym, ap, ◌∙◌}
use mathlib.Core.List.{List, [], ◌++◌, append_assoc, append-nil}
use native.Mathlib.Nat.{lt_of_lt_of_le}
use native.Mathlib.Omega.{arith}
use lib.Dec.{lit≤}
use lib.ListN.{length, take, drop}
use lib.Seq.{drop-drop, drop-append_seam, take_at}
use lib.Ieee.{binary64}
use lib.Ieee.Bits.{to_bits-lt}
use Rattle.byte_order.specs.Bytes.{le_bytes, le_of}
use Rattle.byte_order.specs.Orders.{be_bytes, be_of}
use Rattle.byte_order.proofs.Bytes.{le_length, le_drop, le_back}
use Rattle.byte_order.proofs.Orders.{be_length, be_back}
use Rattle.doubles.specs.Doubles.{double_bits, sixtyfourths}
use Rattle.doubles.proofs.Exactly.{held}
use Rattle.doubles.proofs.Pattern.{bits, decodes}
use Rattle.shapefile.specs.Extent.{Point, Extent, extent}
use Rattle.shapefile.specs.Layout.{box_bytes, point_bytes}
use Rattle.shapefile.specs.Figures.{extent_bytes}
use Rattle.shapefile.specs.Reading.{Is64ths, PointAt, BoxAt, LeastBox, none, some, NarrowPoints}
use Rattle.shapefile.proofs.Least.{bounded}

-- from place `at` on s holds the bytes t
pub record Stands (s : List ℕ) (at : ℕ) (t : List ℕ) : Type 0 where
  pub rest : List ℕ
  pub is : drop at s ≡ t ++ rest

pub all_stands : (s : List ℕ) → Stands s 0 s
all_stands s = record { rest = []; is = sym (append-nil s) }

pub first : {s : List ℕ} {at : ℕ} (a b : List ℕ) → Stands s at (a ++ b) → Stands s at a
first a b h = record { rest = b ++ h.rest; is = h.is ∙ append_assoc a b h.rest }

pub then : {s : List ℕ} {at : ℕ} (a b : List ℕ) (to : ℕ) → at + length a ≡ to → Stands s at (a ++ b) → Stands s to b
then {s} {at} a b to e h =
    record {
      rest = h.rest;
      is =
          ap (λ (n : ℕ). drop n s) (sym e)
          ∙ sym (drop-drop (length a) at s)
          ∙ ap (drop (length a)) (h.is ∙ append_assoc a b h.rest)
          ∙ drop-append_seam a (b ++ h.rest);
    }

pub then_le : {s : List ℕ} {at : ℕ} (w v : ℕ) (b : List ℕ) (to : ℕ) → at + w ≡ to → Stands s at (le_bytes w v ++ b) → Stands s to b
then_le {at} w v b to e h = then (le_bytes w v) b to (rw le_length e) h

pub then_be : {s : List ℕ} {at : ℕ} (w v : ℕ) (b : List ℕ) (to : ℕ) → at + w ≡ to → Stands s at (be_bytes w v ++ b) → Stands s to b
then_be {at} w v b to e h = then (be_bytes w v) b to (rw be_length e) h

-- ---- numbers

pub le_at : {s : List ℕ} {at : ℕ} (w v : ℕ) → v < 256 ^ w → Stands s at (le_bytes w v) → le_of w s at ≡ v
le_at {s} {at} w v l h =
    let e : at + 0 ≡ at = omega arith in
    ap (le_of w s) (sym e) ∙ sym (le_drop w at s 0) ∙ ap (λ (t : List ℕ). le_of w t 0) h.is ∙ le_back w v 0 [] h.rest refl l

pub be_at : {s : List ℕ} {at : ℕ} (w v : ℕ) → v < 256 ^ w → Stands s at (be_bytes w v) → be_of w s at ≡ v
unfolding be_of
be_at {s} {at} w v l h = rw h.is (be_back w v 0 [] h.rest refl l)

pub bytes-at : {s : List ℕ} {at : ℕ} (w v : ℕ) → Stands s at (le_bytes w v) → take w (drop at s) ≡ le_bytes w v
bytes-at w v h = ap (take w) h.is ∙ take_at (le_bytes w v) h.rest w (le_length w v)

-- ---- doubles

double_below : (n : ℕ) → n < 2 ^ 53 → double_bits n < 256 ^ 8
double_below n h = rw (← bits n h) (to_bits-lt binary64 (sixtyfourths n) (held n))

exact : {n : ℕ} → n < 2 ^ 32 → n < 2 ^ 53
exact h = lt_of_lt_of_le h (lit≤ tt)

pub double-at : {s : List ℕ} {at : ℕ} (n : ℕ) → n < 2 ^ 32 → Stands s at (le_bytes 8 (double_bits n)) → Is64ths s at n
double-at {s} {at} n h t = rw (le_at 8 (double_bits n) (double_below n (exact h)) t) (decodes n (exact h))

pub point_at : {s : List ℕ} {at : ℕ} (p : Point) → (p.x < 2 ^ 32) × (p.y < 2 ^ 32) → Stands s at (point_bytes (double_bits p.x) (double_bits p.y)) → PointAt s at p
unfolding point_bytes
point_at p n h =
    let b = le_bytes 8 (double_bits p.y) in
    record {
      x = double-at p.x n.0 (first (le_bytes 8 (double_bits p.x)) b h);
      y = double-at p.y n.1 (then_le 8 (double_bits p.x) b _ refl h);
    }

-- ---- boxes

record NarrowBox (e : Extent) : Type 0 where
  left : e.left < 2 ^ 32
  low : e.low < 2 ^ 32
  right : e.right < 2 ^ 32
  high : e.high < 2 ^ 32

narrow_box : {l : List Point} {e : Extent} → LeastBox l e → NarrowPoints l → NarrowBox e
narrow_box none n = record { left = omega arith; low = omega arith; right = omega arith; high = omega arith }
narrow_box (some i r) n =
    record {
      left = rw r.left.2 (n r.left.0 r.left.1).0;
      low = rw r.low.2 (n r.low.0 r.low.1).1;
      right = rw r.right.2 (n r.right.0 r.right.1).0;
      high = rw r.high.2 (n r.high.0 r.high.1).1;
    }

pub box_at : {s : List ℕ} {at : ℕ} (l : List Point) → NarrowPoints l → Stands s at (extent_bytes (extent l)) → BoxAt s at l
unfolding extent_bytes box_bytes
box_at {s} {at} l n h =
    let e = extent l in
    let m = narrow_box (bounded l) n in
    let d1 = double_bits e.left in
    let d2 = double_bits e.low in
    let d3 = double_bits e.right in
    let b4 = le_bytes 8 (double_bits e.high) in
    let b3 = le_bytes 8 d3 ++ b4 in
    let b2 = le_bytes 8 d2 ++ b3 in
    let h2 = then_le 8 d1 b2 (at + 8) refl h in
    let h3 = then_le 8 d2 b3 (at + 16) (omega arith) h2 in
    let h4 = then_le 8 d3 b4 (at + 24) (omega arith) h3 in
    record {
      box = e;
      least = bounded l;
      left = double-at e.left m.left (first (le_bytes 8 d1) b2 h);
      low = double-at e.low m.low (first (le_bytes 8 d2) b3 h2);
      right = double-at e.right m.right (first (le_bytes 8 d3) b4 h3);
      high = double-at e.high m.high h4;
    }
