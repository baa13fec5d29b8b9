-- What the writer returns and leaves, in each of its three endings.
use Prim.Native.Nat.{ℕ, ◌≤◌, ◌<◌}
use mathlib.Core.Path.{◌≡◌, ◌∙◌}
use mathlib.Core.List.{List}
use native.Mathlib.Omega.{arith}
use lib.ListN.{length}
use lib.Seq.{sets}
use Rattle.byte_order.proofs.Stores.{sets_front}
use Rattle.sheet.specs.declared.Sheet.{Sheet}
use Rattle.sheet.specs.Returned.{accepted, gives, refused}
use Rattle.sheet.specs.HandedIn.{check_of}
use Rattle.sheet.proofs.Lent as ending
use Rattle.sheet_writer.specs.Written.{form_of, write_of}

module _ (s : Sheet) (lent : List ℕ) where
  pub as_checked : (n p : ℕ) → check_of s ≡ refused n p → ending.Ends (write_of s (length lent)) (form_of s) lent (refused n p) lent
  as_checked n p e = ending.as_refused (form_of s) lent (length (form_of s)) (length (form_of s)) e

  module _ (ok : check_of s ≡ accepted) {k : ℕ} (e : length (form_of s) ≡ k) where
    pub too_short : length lent < k → ending.Ends (write_of s (length lent)) (form_of s) lent (refused 12 k) lent
    too_short h = ending.too_short (form_of s) lent (length (form_of s)) ok e h

    pub stored : k ≤ length lent → {x : List ℕ} → x ≡ sets lent 0 (form_of s) → ending.Ends (write_of s (length lent)) (form_of s) lent (gives k) x
    stored h {x} q = ending.stored (form_of s) lent (length (form_of s)) ok e (omega arith) (q ∙ sets_front lent (form_of s) (omega arith))
