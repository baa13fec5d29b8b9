-- `begin`: after each turn one more tip has begun.
use Rattle.records.specs.SheetIn.{sheet_in}
use Rattle.grid_state.specs.Sweep.{sweep_in}
use Rattle.grid_state.specs.Run.{Starting}
use Rattle.grid_enter.proofs.begin.Given as goal

abbrev pub invariant-loop-i : goal.invariant-loop-i
invariant-loop-i l = Starting (sheet_in l.records) l.g l.i (sweep_in l.watch l.members)
