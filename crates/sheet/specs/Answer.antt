-- The answer of a call that writes, in the numbers of SHEETS 3.1 and 3.11.
use Rattle.std.specs.Prelude.{ℕ, Result, Ok, Err}
use Rattle.sheet.specs.declared.Refusal.{Refusal}
use Rattle.sheet.specs.Returned.{Returned, gives, refusal}

abbrev pub answered : Result ℕ Refusal → Returned
answered (Ok n) = gives n
answered (Err r) = refusal r
