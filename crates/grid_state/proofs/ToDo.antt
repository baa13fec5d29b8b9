-- Each event leaves less to do: `less_cells`, `less-stale`, `less-rows`.
use mathlib.Core.Path.{◌≡◌, refl, sym, subst}
use mathlib.Core.Bool.{Bool, true, false, true≢false, cond}
use mathlib.Core.List.{List}
use Prim.Native.Nat.{ℕ, zero, suc, ◌+◌, ◌*◌, ◌≤◌, ◌<◌}
use native.Mathlib.Decide.{ℕ_discrete}
use native.Mathlib.Omega.{arith}
use Rattle.tips.specs.declared.Tip.{Tip}
use Rattle.look.specs.Counts.{stale}
use Rattle.grid_state.specs.Sweep.{Sweep}
use Rattle.grid_state.specs.ToDo.{stales, to_do}

-- the tip at j has ended, or its cause counts
abbrev pub Sure : List Tip → ℕ → Type 0
Sure ts j = stale ts j ≡ false

-- of the first n, those that were sure still are
abbrev pub StillSure : ℕ → List Tip → List Tip → Type 0
StillSure n ts ts' = (j : ℕ) → j < n → Sure ts j → Sure ts' j

one_le : (p q : Bool) → (p ≡ false → q ≡ false) → cond q 1 0 ≤ cond p 1 0
one_le true true f = omega arith
one_le true false f = omega arith
one_le false true f = absurd (true≢false (f refl))
one_le false false f = omega arith

one_lt : (p q : Bool) → (p ≡ false → ⊥) → q ≡ false → cond q 1 0 < cond p 1 0
one_lt true true n y = absurd (true≢false y)
one_lt true false n y = omega arith
one_lt false q n y = absurd (n refl)

one_in : (p : Bool) → cond p 1 0 ≤ 1
one_in true = omega arith
one_in false = omega arith

stales_in : (ts : List Tip) (n : ℕ) → stales ts n ≤ n
unfolding stales
stales_in ts zero = omega arith
stales_in ts (suc n) = omega (arith, one_in (stale ts n), stales_in ts n)

module _ (ts ts' : List Tip) where
  stales_fewer : (n : ℕ) → StillSure n ts ts' → stales ts' n ≤ stales ts n
  unfolding stales
  stales_fewer zero f = omega arith
  stales_fewer (suc n) f = omega (arith, one_le (stale ts n) (stale ts' n) (f n (omega arith)), stales_fewer n (λ j h. f j (omega arith)))

  stales-less : (n i : ℕ) → i < n → StillSure n ts ts' → (Sure ts i → ⊥) → Sure ts' i → stales ts' n < stales ts n
  unfolding stales
  stales-less zero i h f x y = absurd (omega arith)
  stales-less (suc n) i h f x y = go (ℕ_discrete n i) (stales-less n i)
    where
      go : Dec (n ≡ i) → (i < n → StillSure n ts ts' → (Sure ts i → ⊥) → Sure ts' i → stales ts' n < stales ts n) → cond (stale ts' n) 1 0 + stales ts' n < cond (stale ts n) 1 0 + stales ts n
      go (yes e) rec =
          omega (arith, one_lt (stale ts n) (stale ts' n) (subst (λ (z : ℕ). Sure ts z → ⊥) (sym e) x) (subst (λ (z : ℕ). Sure ts' z) (sym e) y), stales_fewer n (λ j l. f j (omega arith)))
      go (no d) rec = omega (arith, one_le (stale ts n) (stale ts' n) (f n (omega arith)), rec (omega arith) (λ j l. f j (omega arith)) x y)

module _ (n k : ℕ) (w w' : Sweep) where
  pub less_cells : w.entered < 63 * n → w'.entered ≡ w.entered + 1 → StillSure n w.crowd.tips w'.crowd.tips → to_do n w' k < to_do n w k
  unfolding to_do
  less_cells h e f = omega (arith, stales_fewer w.crowd.tips w'.crowd.tips n f)

  pub less-stale : (i : ℕ) → i < n → w'.entered ≡ w.entered → StillSure n w.crowd.tips w'.crowd.tips → (Sure w.crowd.tips i → ⊥) → Sure w'.crowd.tips i → to_do n w' k < to_do n w k
  unfolding to_do
  less-stale i h e f x y = omega (arith, stales-less w.crowd.tips w'.crowd.tips n i h f x y)

  pub less-rows : n ≤ 256 → k < n → w'.entered ≡ w.entered → to_do n w' (k + 1) < to_do n w k
  unfolding to_do
  less-rows h l e = omega (arith, stales_in w'.crowd.tips n)
