-- The cells of the tips when the tip at i has entered one more: `own_cells`, `other_cells`.
use mathlib.Core.List.{List, [], ◌∷◌}
use mathlib.Core.Logic.{◌≢◌}
use mathlib.Core.Path.{◌≡◌}
use Prim.Native.Nat.{ℕ, ◌<◌}
use lib.ListN.{length, set}
use lib.Seq.{get_or-set_same, get_or-set_other}
use Rattle.cells.specs.declared.Cell.{Cell}
use Rattle.grid_state.specs.State.{cells_at}

module _ (es : List (List Cell)) (i : ℕ) (room : i < length es) (k : Cell) where
  pub own_cells : cells_at (set es i (k ∷ cells_at es i)) i ≡ k ∷ cells_at es i
  own_cells = get_or-set_same es i (k ∷ cells_at es i) [] room

  pub other_cells : (j : ℕ) → j ≢ i → cells_at (set es i (k ∷ cells_at es i)) j ≡ cells_at es j
  other_cells j n = get_or-set_other es i j (k ∷ cells_at es i) [] n
