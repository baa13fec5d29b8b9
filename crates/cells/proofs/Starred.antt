-- The counts of the starred sheets, and of those whose tips open later or face each other: `starred_cells` and `evaluated_cells`, each count of the table is its sheet's, by one computed test over the table; `starred_counted` and `evaluated_counted`, it is the number that `Counted` tells of.
use mathlib.Core.Path.{◌≡◌, ap, ◌∙◌, subst}
use mathlib.Core.Bool.{Bool}
use mathlib.Core.List.{List}
use Prim.Native.Nat.{ℕ}
use lib.Dec.{T, eqb, eqb→eq}
use Rattle.sheet.specs.Accepted.{Accepted}
use Rattle.sheet.specs.Listing.{◌∈◌}
use Rattle.rule.specs.declared.Row.{Row}
use Rattle.rule.specs.Rows.{time_of}
use Rattle.rule.specs.Selection.{roll_of}
use Rattle.rule.specs.Starred.{Starred, listing_of, starred, evaluated}
use Rattle.rule.proofs.Tests.{all, all-at}
use Rattle.rule.proofs.Starred.{starred_accepted, starred_computed}
use Rattle.rule.proofs.Evaluated.{evaluated_accepted, evaluated_is}
use Rattle.cells.specs.Grid.{g8, side}
use Rattle.cells.specs.Touched.{Counted}
use Rattle.cells.specs.Cut.{before, later, sooner, plusᶜ, past}
use Rattle.cells.specs.OneCell.{border, enter, leave, entryᵃ, exitᵃ, entry, exit, has_point}
use Rattle.cells.specs.Passing.{passing}
use Rattle.cells.specs.CellsEntered.{column_cells, grid_cells, touched, touched_by, cells_entered}
use Rattle.cells.proofs.CellsEntered.{is_counted}

-- with the end times that the table has
cells_ok : Starred → Bool
unfolding touched_by touched passing grid_cells column_cells has_point entry exit entryᵃ exitᵃ enter leave border before later sooner plusᶜ past side time_of
cells_ok e = eqb (touched_by (time_of e.roll) 8 e.tracks) e.cells

table_ok : T (all cells_ok starred)
unfolding cells_ok starred
table_ok = tt

evaluated_ok : T (all cells_ok evaluated)
unfolding cells_ok evaluated
evaluated_ok = tt

-- of an entry of either table
module _ {e : Starred} (acc : Accepted (listing_of e)) (computed : roll_of (listing_of e) ≡ e.roll) (ok : T (cells_ok e)) where
  cells_is : cells_entered (listing_of e) 8 ≡ e.cells
  unfolding cells_entered cells_ok
  cells_is = ap (λ (l : List Row). touched_by (time_of l) 8 e.tracks) computed ∙ eqb→eq (touched_by (time_of e.roll) 8 e.tracks) e.cells ok

  counted_is : Counted (time_of e.roll) 8 e.tracks e.cells
  counted_is =
      subst (λ (l : List Row). Counted (time_of l) 8 e.tracks e.cells) computed
      (subst (λ (n : ℕ). Counted (time_of (roll_of (listing_of e))) 8 e.tracks n) cells_is (is_counted acc g8))

pub starred_cells : (e : Starred) → e ∈ starred → cells_entered (listing_of e) 8 ≡ e.cells
starred_cells e m = cells_is (starred_accepted e m) (starred_computed e m) (all-at cells_ok starred table_ok e m)

pub starred_counted : (e : Starred) → e ∈ starred → Counted (time_of e.roll) 8 e.tracks e.cells
starred_counted e m = counted_is (starred_accepted e m) (starred_computed e m) (all-at cells_ok starred table_ok e m)

pub evaluated_cells : (e : Starred) → e ∈ evaluated → cells_entered (listing_of e) 8 ≡ e.cells
evaluated_cells e m = cells_is (evaluated_accepted e m) (evaluated_is e m) (all-at cells_ok evaluated evaluated_ok e m)

pub evaluated_counted : (e : Starred) → e ∈ evaluated → Counted (time_of e.roll) 8 e.tracks e.cells
evaluated_counted e m = counted_is (evaluated_accepted e m) (evaluated_is e m) (all-at cells_ok evaluated evaluated_ok e m)
