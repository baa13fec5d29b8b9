-- What a call of the writer returns, and what the caller's buffer then holds (SHEETS 2.6, 3.8 to 3.10).
use Rattle.std.specs.Prelude.{List, ℕ, length}
use Rattle.sheet.specs.declared.Sheet.{Sheet}
use Rattle.sheet.specs.Lent.{and_then, or_short, after}
use Rattle.sheet.specs.Returned.{Returned}
use Rattle.sheet.specs.Ordered.{ordered_form}
use Rattle.sheet.specs.HandedIn.{handed_in, check_of}

-- what the writer gives (SHEETS 2.6, 2.7)
abbrev pub form_of : Sheet → List ℕ
form_of sheet = ordered_form (handed_in sheet)

-- 12 after the sheet's own refusals (SHEETS 3.8); else the length written
abbrev pub write_of : Sheet → ℕ → Returned
write_of sheet lent = and_then (check_of sheet) (or_short (length (form_of sheet)) lent (length (form_of sheet)))

-- the buffer after the call (SHEETS 3.10)
abbrev pub buffer_after : Sheet → List ℕ → List ℕ
buffer_after sheet lent = after (write_of sheet (length lent)) (form_of sheet) lent
