-- The numbers of a grid of g by g cells.
use Prim.Native.Nat.{ℕ, ◌≤◌, ◌<◌}
use native.Mathlib.Omega.{arith}
use Rattle.cells.specs.Grid.{Figure, g1, g2, g4, g8, g16, g32, side}

pub figure_in : {g : ℕ} → Figure g → (0 < side g) × (side g ≤ 4096) × (g ≤ 32)
unfolding side
figure_in g1 = (omega arith, omega arith, omega arith)
figure_in g2 = (omega arith, omega arith, omega arith)
figure_in g4 = (omega arith, omega arith, omega arith)
figure_in g8 = (omega arith, omega arith, omega arith)
figure_in g16 = (omega arith, omega arith, omega arith)
figure_in g32 = (omega arith, omega arith, omega arith)
