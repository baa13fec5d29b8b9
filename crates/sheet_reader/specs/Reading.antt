-- What reading a sheet's bytes gives: the verdict (SHEETS 3.3), and the records of an accepted sheet (SHEETS 2.7).
use Rattle.std.specs.Prelude.{◌≡◌, List, [], ℕ, Result, Ok, Err}
use Rattle.sheet.specs.declared.Sheet.{Sheet}
use Rattle.sheet.specs.declared.Refusal.{Refusal}
use Rattle.sheet.specs.Listing.{Listing, listing}
use Rattle.sheet.specs.Returned.{Returned, accepted, gives, refused, refusal}
use Rattle.sheet.specs.Scan.{verdict_of, commands_of}
use Rattle.sheet.specs.HandedIn.{sheet_of}

-- a refused sheet has no records (SHEETS 2.11)
abbrev pub if_accepted : Returned → Listing → Listing
if_accepted accepted l = l
if_accepted (gives n) l = listing []
if_accepted (refused n p) l = listing []

-- the records of a sheet's bytes (SHEETS 2.7, 2.11)
abbrev pub records_of : List ℕ → Listing
records_of s = if_accepted (verdict_of s) (listing (commands_of s))

-- what reading gives: the records of an accepted sheet, or the refusal (SHEETS 2.7, 2.11, 3.3)
abbrev pub ReadFrom : List ℕ → Result Sheet Refusal → Type 0
ReadFrom s (Ok sheet) = (verdict_of s ≡ accepted) × (sheet ≡ sheet_of (listing (commands_of s)))
ReadFrom s (Err r) = verdict_of s ≡ refusal r
