-- The cells of the grid that pass the test. Main theorem: `touched_of`, they are exactly the cells of the trace, each once.
use mathlib.Core.Path.{◌≡◌, refl, ap, subst}
use mathlib.Core.Logic.{◌⊎◌, inl, inr}
use mathlib.Core.Bool.{Bool, true, false, cond}
use mathlib.Core.List.Memᴰ
use mathlib.Core.List.{List, ◌∷◌, ◌++◌}
use Prim.Native.Nat.{ℕ, zero, suc, ◌<◌}
use native.Mathlib.Nat.{eq-or-lt_of_le}
use native.Mathlib.Omega.{arith}
use Rattle.fraction.specs.Time.{Time, ◌≤ᵗ◌}
use Rattle.fraction.proofs.Shift.{minus_le}
use Rattle.sheet.specs.declared.Track.{Track}
use Rattle.sheet.specs.Listing.{◌∈◌}
use Rattle.rule.specs.Motion.{opening, age, Inside}
use Rattle.cells.specs.declared.Cell.{Cell}
use Rattle.cells.specs.Grid.{Figure, side}
use Rattle.cells.specs.Touched.{Distinct, none, one_more, CellsOf}
use Rattle.cells.specs.OneCell.{has_point}
use Rattle.cells.specs.Passing.{passing}
use Rattle.cells.specs.CellsEntered.{column_cells, grid_cells, touched}
use Rattle.cells.proofs.Entry.{has_point_true, tested}
use Rattle.cells.proofs.Passing.{passing_in, in_passing}
use Rattle.cells.proofs.Points.{in_grid}
use Rattle.cells.proofs.Walk.{Stay}

-- ---- the cells of the grid, each once

module _ (p : Cell → Bool) where
  pub passing_distinct : {l : List Cell} → Distinct l → Distinct (passing p l)
  unfolding passing
  passing_distinct none = none
  passing_distinct (one_more {k = k} {l = l} n d) = go (p k) (passing_distinct d)
    where
      go : (b : Bool) → Distinct (passing p l) → Distinct (cond b (k ∷ passing p l) (passing p l))
      go true r = one_more (λ i. n (passing_in p l i).0) r
      go false r = r

in_column : {k : Cell} (c r : ℕ) → k ∈ column_cells c r → (k.column ≡ c) × (k.row < r)
unfolding column_cells
in_column c zero i = absurd (Memᴰ.not-nil i)
in_column {k} c (suc r) i = go (in_column c r) (Memᴰ.cases_cons i)
  where
    go : (k ∈ column_cells c r → (k.column ≡ c) × (k.row < r)) → (k ≡ record { column = c; row = r }) ⊎ (k ∈ column_cells c r) → (k.column ≡ c) × (k.row < suc r)
    go rec (inl e) = (ap (λ (z : Cell). z.column) e, omega (arith, ap (λ (z : Cell). z.row) e))
    go rec (inr j) = let (f, h) = rec j in (f, omega arith)

column_has : (k : Cell) (r : ℕ) → k.row < r → k ∈ column_cells k.column r
unfolding column_cells
column_has k zero h = absurd (omega arith)
column_has k (suc r) h = go (column_has k r) (eq-or-lt_of_le {n = k.row} {m = r} (omega arith))
  where
    go : (k.row < r → k ∈ column_cells k.column r) → (k.row ≡ r) ⊎ (k.row < r) → k ∈ (record { column = k.column; row = r } ∷ column_cells k.column r)
    go rec (inl e) = Memᴰ.head (λ d. record { column = k.column; row = e d })
    go rec (inr j) = Memᴰ.tail (rec j)

column_distinct : (c r : ℕ) → Distinct (column_cells c r)
unfolding column_cells
column_distinct c zero = none
column_distinct c (suc r) = one_more {k = record { column = c; row = r }} {l = column_cells c r} (λ (i : record { column = c; row = r } ∈ column_cells c r). omega (arith, (in_column c r i).1)) (column_distinct c r)

in_columns : {k : Cell} (c r : ℕ) → k ∈ grid_cells c r → k.column < c
unfolding grid_cells
in_columns zero r i = absurd (Memᴰ.not-nil i)
in_columns {k} (suc c) r i = go (in_columns c r) (Memᴰ.append_cases (column_cells c r) i)
  where
    go : (k ∈ grid_cells c r → k.column < c) → (k ∈ column_cells c r) ⊎ (k ∈ grid_cells c r) → k.column < suc c
    go rec (inl j) = omega (arith, (in_column c r j).0)
    go rec (inr j) = omega (arith, rec j)

grid_has : (k : Cell) (c r : ℕ) → k.column < c → k.row < r → k ∈ grid_cells c r
unfolding grid_cells
grid_has k zero r h i = absurd (omega arith)
grid_has k (suc c) r h i = go (grid_has k c r) (eq-or-lt_of_le {n = k.column} {m = c} (omega arith))
  where
    go : (k.column < c → k.row < r → k ∈ grid_cells c r) → (k.column ≡ c) ⊎ (k.column < c) → k ∈ (column_cells c r ++ grid_cells c r)
    go rec (inl e) = Memᴰ.append_left (grid_cells c r) (subst (λ (z : ℕ). k ∈ column_cells z r) e (column_has k r i))
    go rec (inr j) = Memᴰ.append_right (column_cells c r) (rec j i)

-- two lists without a common member
apart : {l m : List Cell} → Distinct l → Distinct m → ((k : Cell) → k ∈ l → ¬ (k ∈ m)) → Distinct (l ++ m)
apart none d h = d
apart {m = m} (one_more {k = k} {l = l} n c) d h = one_more new (apart c d (λ j i. h j (Memᴰ.tail i)))
  where
    new : ¬ (k ∈ (l ++ m))
    new i = go (Memᴰ.append_cases l i)
      where
        go : (k ∈ l) ⊎ (k ∈ m) → ⊥
        go (inl j) = n j
        go (inr j) = h k (Memᴰ.head refl) j

grid_distinct : (c r : ℕ) → Distinct (grid_cells c r)
unfolding grid_cells
grid_distinct zero r = none
grid_distinct (suc c) r = apart (column_distinct c r) (grid_distinct c r) (λ k i j. omega (arith, (in_column c r i).0, in_columns c r j))

-- ---- the cells of a trace

module _ (a : Track) (T : Time) (g : ℕ) (f : Figure g) (z : Stay a T) where
  inside : (t : Time) → opening a ≤ᵗ t → t ≤ᵗ T → Inside a t
  inside t o h =
      let p = age a t in
      let l = minus_le a.start h in
      record { opened = o; inside = record { x_low = z.stay_x.low p l; x_high = z.stay_x.high p l; y_low = z.stay_y.low p l; y_high = z.stay_y.high p l } }

  pub touched_of : CellsOf a T (side g) (touched a T g)
  unfolding touched
  touched_of =
      record {
        once = passing_distinct (has_point a T (side g)) (grid_distinct g g);
        each = λ k i. has_point_true (passing_in (has_point a T (side g)) (grid_cells g g) i).1;
        all = λ k h. let (c, r) = in_grid f (inside h.when h.there.opened h.by_end) h.there in in_passing (has_point a T (side g)) (grid_cells g g) (grid_has k g g c r) (tested h);
      }
