-- Fields stored one behind the other are a file's header: `title_put`, `header_put`.
use Prim.Native.Nat.{ℕ}
use mathlib.Core.Path.{◌≡◌}
use mathlib.Core.List.{List, ◌++◌}
use lib.ListN.{length-append}
use lib.Seq.{sets}
use Rattle.byte_order.specs.Bytes.{le_bytes}
use Rattle.byte_order.proofs.Bytes.{le_length}
use Rattle.byte_order.specs.Orders.{be_bytes}
use Rattle.byte_order.proofs.Orders.{be_length}
use Rattle.byte_order.proofs.Stores.{three, five}
use Rattle.shape_records.specs.declared.Bounds.{Bounds}
use Rattle.shapefile.specs.Layout.{big, little, header}
use Rattle.shape_records.specs.Shapes.{bounds_bytes}
use Rattle.shape_records.proofs.Contents.{bounds_length}

module _ (l : List ℕ) (w t : ℕ) where
  abbrev title : List ℕ
  title = big 9994 ++ (le_bytes 20 0 ++ (big w ++ (little 1000 ++ little t)))

  pub title_put : {a b c d e : List ℕ} → a ≡ sets l 0 (big 9994) → b ≡ sets a 4 (le_bytes 20 0) → c ≡ sets b 24 (big w) → d ≡ sets c 28 (little 1000)
      → e ≡ sets d 32 (little t) → e ≡ sets l 0 title
  title_put p q r s u =
      five l 0 (be_bytes 4 9994) (le_bytes 20 0) p q (simp be_length) (be_bytes 4 w) r (simp (be_length, le_length))
      (le_bytes 4 1000) s (simp (be_length, le_length)) (le_bytes 4 t) u (simp (be_length, le_length))

  pub header_put : (b : Bounds) {x y z : List ℕ} → x ≡ sets l 0 title → y ≡ sets x 36 (bounds_bytes b) → z ≡ sets y 68 (le_bytes 32 0) → z ≡ sets l 0 (header t w (bounds_bytes b))
  unfolding header
  header_put b p q r = three l 0 title (bounds_bytes b) p q (simp (length-append, be_length, le_length)) (le_bytes 32 0) r (simp (length-append, be_length, le_length, bounds_length))
