-- What a sheet's bytes or the records handed in give: the records of an accepted sheet, or the refusal (SHEETS 2.7, 2.8, 3.3).
use Rattle.std.specs.Prelude.{◌≡◌, Result, Ok, Err}
use Rattle.sheet.specs.declared.Refusal.{Refusal}
use Rattle.sheet.specs.declared.Sheet.{Sheet}
use Rattle.sheet.specs.HandedIn.{handed_in}
use Rattle.sheet.specs.Listing.{Listing}
use Rattle.sheet.specs.Returned.{Returned, accepted, refusal}
use Rattle.records.specs.Records.{Handed}

-- an accepted sheet in its arrays, with these records
pub record Ready (v : Returned) (S : Listing) (sheet : Sheet) : Type 0 where
  pub accepts : v ≡ accepted
  pub handed : Handed sheet
  pub same : handed_in sheet ≡ S

-- for a verdict and the records that it is on
abbrev pub Accepts : Returned → Listing → Result Sheet Refusal → Type 0
Accepts v S (Ok sheet) = Ready v S sheet
Accepts v S (Err r) = v ≡ refusal r
