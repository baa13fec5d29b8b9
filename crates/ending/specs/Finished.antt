-- A tip ends: what the code asks and does, over the sheet, the tips and the rows.
use Rattle.std.specs.Prelude.{◌≡◌, List, ℕ, ◌*◌, ◌≤◌, ◌<◌, length}
use Rattle.std.proofs.lemmas.List.Edits.{sets}
use Rattle.sheet.specs.Listing.{Listing}
use Rattle.rule.specs.declared.Ending.{Ending}
use Rattle.rule.specs.Causes.{low}
use Rattle.rule.specs.RowBytes.{row_bytes, row_width}
use Rattle.row.specs.RowAt.{row_at}
use Rattle.cause.specs.Cause.{tip_at}
use Rattle.tips.specs.declared.Tip.{Tip}
use Rattle.tips.specs.Tips.{tip_in, with_end}
use Rattle.look.specs.Ends.{end_of}
use Rattle.ending.specs.Ended.{Endable}

-- the rows of all tracks have room
abbrev pub RoomFor : Listing → List ℕ → Type 0
RoomFor S out = row_width * length S.tracks ≤ length out

-- the tip at i is on the sheet when it ends, and there is a row to come after k
pub record MayEnd (S : Listing) (i k : ℕ) (ts : List Tip) : Type 0 where
  pub tip_within : i < length S.tracks
  pub endable : Endable (tip_at S i) (tip_in ts i).best
  pub more : k < length S.tracks

-- the tip at i ends by its best cause; its time is kept in lowest terms, as its row has it (SHEETS 5.3)
abbrev pub finish : List Tip → ℕ → List Tip
finish ts i = with_end ts i (low (end_of (tip_in ts i)))

-- its end is noted, and its row is at place k
pub record Finished (S : Listing) (i k : ℕ) (e : Ending) (ts : List Tip) (out : List ℕ) (ts' : List Tip) (out' : List ℕ) : Type 0 where
  pub noted : ts' ≡ finish ts i
  pub written : out' ≡ sets out (row_width * k) (row_bytes (row_at (tip_at S i) (end_of (tip_in ts i)) e (tip_in ts i).best.side))
