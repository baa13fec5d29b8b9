-- The sheet that the records hold.
use Rattle.sheet.specs.HandedIn.{handed_in}
use Rattle.sheet.specs.Listing.{Listing}
use Rattle.records.specs.declared.Records.{Records}

abbrev pub sheet_in : Records → Listing
sheet_in r = handed_in r.sheet
