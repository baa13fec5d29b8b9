-- The partner's name (SHEETS 8.2 to 8.4): which part of which list is handed back.
use Rattle.std.specs.Prelude.{◌≡◌, Option, Some, None, List, ℕ, ◌+◌, take, drop}
use Rattle.std.specs.Borrow.{Bor}
use Rattle.rule.specs.declared.Ending.{Ending}
use Rattle.rule.specs.declared.Ending.TheVariants.{ByTrack, Meeting, ByWall, Edge}
use Rattle.names.specs.NameList.{name_of}

-- a part of one of the two lists (SHEETS 8.2, 8.3): where it starts, and how many bytes it has
pub data Part : Type 0 where
  of_tracks : ℕ → ℕ → Part
  of_walls : ℕ → ℕ → Part

-- the part found, or the empty part at the start of the track list (SHEETS 8.4)
abbrev pub or_empty : (ℕ → ℕ → Part) → Option (ℕ × ℕ) → Part
or_empty list (Some (start, size)) = list start size
or_empty list None = of_tracks 0 0

-- which list is searched, by the kind of ending (SHEETS 8.2); none for the edge (SHEETS 8.4)
unfoldable pub partner_name : List ℕ → List ℕ → Ending → Part
partner_name tracks walls (ByTrack q) = or_empty of_tracks (name_of tracks q)
partner_name tracks walls (Meeting q) = or_empty of_tracks (name_of tracks q)
partner_name tracks walls (ByWall q) = or_empty of_walls (name_of walls q)
partner_name tracks walls Edge = of_tracks 0 0

-- r lies in a list from a place on (SHEETS 8.3), and holds the bytes that the list has there
pub record Lies (list : Bor (List ℕ)) (start size : ℕ) (r : Bor (List ℕ)) : Type 0 where
  pub block : r.ref_ptr.0 ≡ list.ref_ptr.0
  pub from : r.ref_ptr.1 ≡ list.ref_ptr.1 + start
  pub holds : r.now ≡ take size (drop start list.now)

-- r is that part (SHEETS 8.3): the same memory, not a copy of it
abbrev pub IsPart : Bor (List ℕ) → Bor (List ℕ) → Part → Bor (List ℕ) → Type 0
IsPart tracks walls (of_tracks start size) r = Lies tracks start size r
IsPart tracks walls (of_walls start size) r = Lies walls start size r

-- r is the name found in a list, or the empty part at the start of the track list (SHEETS 8.3, 8.4)
abbrev pub IsNamed : Bor (List ℕ) → Bor (List ℕ) → Option (ℕ × ℕ) → Bor (List ℕ) → Type 0
IsNamed tracks list (Some (start, size)) r = Lies list start size r
IsNamed tracks list None r = Lies tracks 0 0 r
