-- `turns` writes the roll and counts the cells. The invariant: the state with as many rows.
use lib.ListN.{length}
use Rattle.records.specs.SheetIn.{sheet_in}
use Rattle.grid_state.specs.Sweep.{sweep_in}
use Rattle.grid_state.specs.ToDo.{to_do}
use Rattle.grid_turns.proofs.Turning.{Turning}
use Rattle.grid_turns.proofs.turns.Given as goal

abbrev pub invariant-loop-k : goal.invariant-loop-k
invariant-loop-k l = Turning (sheet_in l.records) l.g l.initial.out l.rows (sweep_in l.watch l.members) l.out

abbrev pub decreases-loop-k : goal.decreases-loop-k
decreases-loop-k l = to_do (length (sheet_in l.records).tracks) (sweep_in l.watch l.members) l.rows
