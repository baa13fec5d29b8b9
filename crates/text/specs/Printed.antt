-- What a call that prints a text returns, and what the caller's buffer then holds (SHEETS 3.9, 3.10).
use Rattle.std.specs.Prelude.{◌≡◌, List, ℕ, length, Result}
use Rattle.sheet.specs.Lent.{or_short, after}
use Rattle.sheet.specs.Returned.{Returned}
use Rattle.sheet.specs.declared.Refusal.{Refusal}
use Rattle.sheet.specs.Answer.{answered}

-- 12 (SHEETS 3.9), or the text's length
abbrev pub text_returns : List ℕ → ℕ → Returned
text_returns text lent = or_short (length text) lent (length text)

-- the answer and the buffer's contents at exit (SHEETS 3.10)
pub record Prints (text before exit : List ℕ) (r : Result ℕ Refusal) : Type 0 where
  pub answer : answered r ≡ text_returns text (length before)
  pub buffer : exit ≡ after (text_returns text (length before)) text before
