-- The cells entered on an accepted sheet. Main theorems: `is_counted` and `the_count`, `cells_entered` is the one number that there is; `trace_few`, no trace has a point in more than 2g − 1 cells;
-- `count_same`, the order of the tracks does not matter.
use mathlib.Core.Path.{◌≡◌, ap, ◌∙◌}
use mathlib.Core.List.{List}
use Prim.Native.Nat.{ℕ, ◌*◌, ◌-◌, ◌≤◌}
use lib.ListN.{length}
use Rattle.sheet.specs.declared.Track.{Track}
use Rattle.sheet.specs.Accepted.{Accepted}
use Rattle.sheet.specs.Listing.{Listing, ◌∈◌, Reordered}
use Rattle.rule.specs.declared.Row.{Row}
use Rattle.rule.specs.Rows.{time_of}
use Rattle.rule.specs.Selection.{roll_of}
use Rattle.rule.proofs.Consequences.{roll_opened, ends_by_rim}
use Rattle.rule.proofs.OrderFree.{roll_order}
use Rattle.cells.specs.declared.Cell.{Cell}
use Rattle.cells.specs.Grid.{Figure, side}
use Rattle.cells.specs.Touched.{CellsOf, Counted}
use Rattle.cells.specs.CellsEntered.{touched_by, cells_entered}
use Rattle.cells.proofs.Walk.{Stay}
use Rattle.cells.proofs.Count as count
use Rattle.cells.proofs.Total as total

module _ {S : Listing} (acc : Accepted S) where
  pub stays : (a : Track) → a ∈ S.tracks → Stay a (time_of (roll_of S) a.id)
  stays a m = count.stay_rim acc m (roll_opened acc m) (ends_by_rim acc m)

  module _ {g : ℕ} (f : Figure g) where
    pub is_counted : Counted (time_of (roll_of S)) g S.tracks (cells_entered S g)
    unfolding cells_entered
    is_counted = total.counts (time_of (roll_of S)) g f S.tracks stays

    pub the_count : {n : ℕ} → Counted (time_of (roll_of S)) g S.tracks n → n ≡ cells_entered S g
    unfolding cells_entered
    the_count c = total.counted (time_of (roll_of S)) g f stays c

    pub trace_few : (a : Track) → a ∈ S.tracks → (l : List Cell) → CellsOf a (time_of (roll_of S) a.id) (side g) l → length l ≤ 2 * g - 1
    trace_few a m l c = count.trace_few f (stays a m) c

    pub count_few : cells_entered S g ≤ length S.tracks * (2 * g - 1)
    unfolding cells_entered
    count_few = total.count_few (time_of (roll_of S)) g f S.tracks stays

  pub count_same : {S' : Listing} (g : ℕ) → Reordered S S' → cells_entered S g ≡ cells_entered S' g
  unfolding cells_entered
  count_same {S'} g p = total.count_order (time_of (roll_of S)) g p.tracks ∙ ap (λ (l : List Row). touched_by (time_of l) g S'.tracks) (roll_order p acc)
