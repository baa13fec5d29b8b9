-- What partner observatories rely on. They list the tips in their own order and choose their own figure, and neither shows in a row (SHEETS 10.1).
-- Proved of every accepted sheet as `partners` in proofs/Partners.antt.
use Rattle.std.specs.Prelude.{◌≡◌, List, ℕ, ◌*◌, take}
use Rattle.sheet.specs.declared.Command.{Command}
use Rattle.sheet.specs.Returned.{Returned}
use Rattle.rule.specs.RowBytes.{row_width}
use Rattle.grid_run.specs.Demand.{Demand3}
use Rattle.promises.specs.Runs.{Run, row_count, Room}

pub record Partners (l : List Command) : Type 0 where
  -- SHEETS 10.1 and 10.2 in full: the one roll, that it is the rule's, what each run returns in every order and at every figure, and the cells entered
  pub demand : Demand3 l
  -- two observatories, each with its own order, its own run and its own figure, are given the same answer
  pub same_answer :
      {before exit before' exit' : List ℕ} {x x' : Returned} → Run l before exit x → Run l before' exit' x' → Room l before → Room l before'
      → x ≡ x'
  -- and the same rows, byte for byte
  pub same_rows :
      {before exit before' exit' : List ℕ} {x x' : Returned} → Run l before exit x → Run l before' exit' x' → Room l before → Room l before'
      → take (row_width * row_count l) exit ≡ take (row_width * row_count l) exit'
