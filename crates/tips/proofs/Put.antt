-- The tips after a store: `at_put`.
use mathlib.Core.List.{List}
use mathlib.Core.Logic.{◌≢◌}
use mathlib.Core.Path.{◌≡◌, sym, subst}
use Prim.Native.Nat.{ℕ, ◌<◌}
use native.Mathlib.Decide.{ℕ_discrete}
use lib.ListN.{length, set}
use lib.Seq.{get_or-set_same, get_or-set_other}
use Rattle.tips.specs.declared.Tip.{Tip}
use Rattle.tips.specs.Tips.{tip_in, no_tip}

-- what holds of the new tip at i and of the others as they were holds of all
pub at_put : (P : ℕ → Tip → Type 0) (ts : List Tip) (i : ℕ) (t : Tip) → i < length ts → P i t → ((j : ℕ) → j ≢ i → P j (tip_in ts j)) → (j : ℕ) → P j (tip_in (set ts i t) j)
at_put P ts i t h p q j = go (ℕ_discrete j i)
  where
    go : Dec (j ≡ i) → P j (tip_in (set ts i t) j)
    go (yes e) = subst (λ (k : ℕ). P k (tip_in (set ts i t) k)) (sym e) (subst (P i) (sym (get_or-set_same ts i t no_tip h)) p)
    go (no n) = subst (P j) (sym (get_or-set_other ts i j t no_tip n)) (q j n)
