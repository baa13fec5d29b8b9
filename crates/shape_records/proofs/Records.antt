-- Fields stored one behind the other are the parts of a record: `bounds_put`, `point_put`, `end_put`, `null_put`, `line_put`.
use Prim.Native.Nat.{ℕ, ◌+◌}
use mathlib.Core.Path.{◌≡◌, refl, ap, ◌∙◌}
use mathlib.Core.List.{List, ◌++◌, append_assoc}
use lib.ListN.{length, length-append}
use lib.Seq.{sets}
use lib.Ieee.{Float}
use Rattle.byte_order.specs.Bytes.{le_bytes}
use Rattle.byte_order.proofs.Bytes.{le_length}
use Rattle.byte_order.specs.Orders.{be_bytes}
use Rattle.doubles.specs.Doubles.{double_bytes}
use Rattle.byte_order.proofs.Orders.{be_length}
use Rattle.byte_order.proofs.Stores.{two, three, four, five}
use Rattle.shape_records.specs.declared.Bounds.{Bounds}
use Rattle.shapefile.specs.Layout.{big, little, box_bytes, null_content, point_bytes, point_content, line_content, record_bytes}
use Rattle.shape_records.specs.Shapes.{bits, bounds_bytes}
use Rattle.shapefile.proofs.Lengths.{point_length, null_content_length, point_content_length, line_content_length}

module _ (l : List ℕ) (at : ℕ) where
  pub bounds_put : (b : Bounds) {k m n o : List ℕ} → k ≡ sets l at (double_bytes b.left) → m ≡ sets k (at + 8) (double_bytes b.low)
      → n ≡ sets m (at + 16) (double_bytes b.right) → o ≡ sets n (at + 24) (double_bytes b.high) → o ≡ sets l at (bounds_bytes b)
  unfolding double_bytes bounds_bytes box_bytes
  bounds_put b p q r s =
      four l at (le_bytes 8 (bits b.left)) (le_bytes 8 (bits b.low)) p q (simp le_length)
      (le_bytes 8 (bits b.right)) r (simp le_length)
      (le_bytes 8 (bits b.high)) s (simp le_length)

  pub point_put : (x y : Float) {k m : List ℕ} → k ≡ sets l at (double_bytes x) → m ≡ sets k (at + 8) (double_bytes y) → m ≡ sets l at (point_bytes (bits x) (bits y))
  unfolding double_bytes point_bytes
  point_put x y p q = two l at (le_bytes 8 (bits x)) (le_bytes 8 (bits y)) p q (simp le_length)

  pub head_put : (n w t : ℕ) {k m o : List ℕ} → k ≡ sets l at (big n) → m ≡ sets k (at + 4) (big w) → o ≡ sets m (at + 8) (little t) → o ≡ sets l at (big n ++ (big w ++ little t))
  head_put n w t p q r = three l at (be_bytes 4 n) (be_bytes 4 w) p q (simp be_length) (le_bytes 4 t) r (simp be_length)

  pub counts_put : {k m o : List ℕ} → k ≡ sets l at (little 1) → m ≡ sets k (at + 4) (little 2) → o ≡ sets m (at + 8) (little 0) → o ≡ sets l at (little 1 ++ (little 2 ++ little 0))
  counts_put p q r = three l at (le_bytes 4 1) (le_bytes 4 2) p q (simp le_length) (le_bytes 4 0) r (simp le_length)

  pub end_put : (n x y : ℕ) {k m : List ℕ} → k ≡ sets l at (big n ++ (big 10 ++ little 1)) → m ≡ sets k (at + 12) (point_bytes x y) → m ≡ sets l at (record_bytes n (point_content x y))
  unfolding record_bytes
  end_put n x y p q =
      let e : (big n ++ (big 10 ++ little 1)) ++ point_bytes x y ≡ big n ++ (big 10 ++ (little 1 ++ point_bytes x y)) = simp append_assoc in
      two l at (big n ++ (big 10 ++ little 1)) (point_bytes x y) p q (simp (length-append, be_length, le_length)) ∙ ap (sets l at) e ∙ rw (point_content_length x y) (unfold point_content in refl)

  pub null_put : (n : ℕ) {k : List ℕ} → k ≡ sets l at (big n ++ (big 2 ++ little 0)) → k ≡ sets l at (record_bytes n null_content)
  unfolding record_bytes
  null_put n p = p ∙ rw null_content_length (unfold null_content in refl)

  pub line_put : (n : ℕ) (box : List ℕ) (x y u v : ℕ) → length box ≡ 32 → {a b c d e : List ℕ} → a ≡ sets l at (big n ++ (big 40 ++ little 3)) → b ≡ sets a (at + 12) box
      → c ≡ sets b (at + 44) (little 1 ++ (little 2 ++ little 0)) → d ≡ sets c (at + 56) (point_bytes x y) → e ≡ sets d (at + 72) (point_bytes u v)
      → e ≡ sets l at (record_bytes n (line_content box x y u v))
  unfolding record_bytes
  line_put n box x y u v h p q r s t =
      let head = big n ++ (big 40 ++ little 3) in
      let counts = little 1 ++ (little 2 ++ little 0) in
      let rest = box ++ (counts ++ (point_bytes x y ++ point_bytes u v)) in
      let e : head ++ rest ≡ big n ++ (big 40 ++ (little 3 ++ rest)) = simp append_assoc in
      five l at head box p q (simp (length-append, be_length, le_length))
      counts r (simp (length-append, be_length, le_length, h))
      (point_bytes x y) s (simp (length-append, be_length, le_length, h))
      (point_bytes u v) t (simp (length-append, be_length, le_length, h, point_length))
      ∙ ap (sets l at) e ∙ rw (line_content_length box x y u v h) (unfold line_content in refl)
