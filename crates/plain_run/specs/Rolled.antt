-- What a call that rolls a sheet returns, and what the caller's buffer then holds (SHEETS 3.8 to 3.10, 5.6).
use Rattle.std.specs.Prelude.{◌≡◌, List, ℕ, ◌*◌, length, Result}
use Rattle.sheet.specs.Lent.{and_then, or_short, after}
use Rattle.sheet.specs.Listing.{Listing}
use Rattle.sheet.specs.Returned.{Returned}
use Rattle.rule.specs.RowBytes.{roll_bytes, row_width}
use Rattle.rule.specs.Selection.{roll_of}
use Rattle.sheet.specs.declared.Refusal.{Refusal}
use Rattle.sheet.specs.Answer.{answered}

-- the bytes of a roll (SHEETS 5.6)
abbrev pub needed : Listing → ℕ
needed S = row_width * length S.tracks

-- 12 after what is said of the arguments (SHEETS 3.8); else the number of rows
abbrev pub roll_returns : Returned → Listing → ℕ → Returned
roll_returns v S lent = and_then v (or_short (needed S) lent (length S.tracks))

-- the answer and the buffer's contents at exit (SHEETS 3.10, 5.5, 5.6), for a sheet with a verdict and its records
pub record Rolls (v : Returned) (S : Listing) (before exit : List ℕ) (r : Result ℕ Refusal) : Type 0 where
  pub answer : answered r ≡ roll_returns v S (length before)
  pub buffer : exit ≡ after (roll_returns v S (length before)) (roll_bytes (roll_of S)) before
