-- Every order of a sheet's records has the same listing: `same_ids`.
use mathlib.Core.Path.{◌≡◌, ap, ◌∙◌}
use mathlib.Core.List.{List, map}
use Prim.Native.Nat.{ℕ}
use Rattle.sheet.specs.declared.Track.{Track}
use Rattle.sheet.specs.Accepted.{Accepted}
use Rattle.sheet.specs.Listing.{Listing, Reordered}
use Rattle.rule.specs.declared.Row.{Row}
use Rattle.rule.specs.Rows.{time_of}
use Rattle.rule.specs.Selection.{roll_of}
use Rattle.rule.proofs.OrderFree.{roll_order}
use Rattle.cells.specs.declared.Cell.{Cell}
use Rattle.cells.specs.Grid.{side}
use Rattle.cell_listing.specs.CellIds.{cell_tracks, cell_ids}
use Rattle.cell_listing.proofs.TheIds.{same_tracks}

pub same_ids : {S S' : Listing} → Reordered S S' → Accepted S → (g : ℕ) (k : Cell) → cell_ids S g k ≡ cell_ids S' g k
unfolding cell_ids
same_ids {S} {S'} p acc g k =
    ap (map (λ (a : Track). a.id))
    (same_tracks (time_of (roll_of S)) (side g) k p.tracks acc.track_ids
    ∙ ap (λ (rows : List Row). cell_tracks (time_of rows) (side g) k S'.tracks) (roll_order p acc))
