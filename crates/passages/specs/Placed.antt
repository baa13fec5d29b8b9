-- One tip's way, and the place of its row in the roll. Nobody need believe this file: `all_ways` in proofs/Ways.antt shows that what is stored is `passages_of`.
use Rattle.std.specs.Prelude.{◌≡◌, List, ℕ, ◌*◌, ◌<◌}
use Rattle.sheet.specs.declared.Track.{Track}
use Rattle.rule.specs.declared.Row.{Row}
use Rattle.rule.specs.RowBytes.{row_width}
use Rattle.row.specs.Stored.{id_from}
use Rattle.shapefile.specs.declared.Passage.{Passage}

-- of this track and this row
abbrev pub way_of : Track → Row → Passage
way_of a r = record { x = 64 * a.x; y = 64 * a.y; u = r.x; v = r.y }

-- none of the first n rows has this id
abbrev pub NoPlace : List ℕ → ℕ → ℕ → Type 0
NoPlace rows n id = (i : ℕ) → i < n → ¬ (id_from rows (row_width * i) ≡ id)

-- of n rows the k-th is the first with this id
pub record PlaceOf (rows : List ℕ) (n id k : ℕ) : Type 0 where
  pub below : k < n
  pub none_before : NoPlace rows k id
  pub there : id_from rows (row_width * k) ≡ id
