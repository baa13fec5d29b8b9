-- Tips of which nothing is known: `tip_blank`.
use mathlib.Core.Path.{◌≡◌, refl}
use Prim.Native.Nat.{ℕ, zero, suc}
use lib.ListN.{get_or, replicate}
use Rattle.tips.specs.Tips.{no_tip, tip_in}

same : {A : Type 0} (x : A) (n k : ℕ) → get_or (replicate n x) k x ≡ x
same x zero k = refl
same x (suc n) zero = refl
same x (suc n) (suc k) = same x n k

pub tip_blank : (n k : ℕ) → tip_in (replicate n no_tip) k ≡ no_tip
tip_blank = same no_tip
