-- Row by row.
use Prim.Native.Nat.{◌+◌, ◌*◌, ◌≤◌}
use Rattle.row.specs.Stored.{rows_in}
use Rattle.text.specs.Lines.{longest_line}
use Rattle.page.specs.Rows.{lines_of}
use Rattle.page.specs.Behind.{Behind}
use Rattle.page.proofs.put_rows.Given as goal

abbrev pub invariant-loop-k : goal.invariant-loop-k
invariant-loop-k l = Behind (lines_of (rows_in l.rows l.k)) l.at l.initial.out l.end l.out × (l.end ≤ l.at + longest_line * l.k)
