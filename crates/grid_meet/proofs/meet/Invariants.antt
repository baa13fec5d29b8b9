-- `meet`: along the list of the cell, a pair at each entry.
use Prim.Native.Nat.{ℕ}
use mathlib.Core.Path.{◌≡◌}
use Rattle.cell_members.specs.Members.{as_entry}
use Rattle.records.specs.SheetIn.{sheet_in}
use Rattle.grid_state.specs.Sweep.{crowd_in}
use Rattle.grid_meet.proofs.Walk.{number, Walking}
use Rattle.grid_meet.proofs.meet.Given as goal

abbrev pub invariant-loop-next : goal.invariant-loop-next
invariant-loop-next l = (e : ℕ) × (l.next ≡ as_entry e) × Walking (sheet_in l.records) l.side l.i l.members.lists l.cell (crowd_in l.initial.watch) e (crowd_in l.watch)

abbrev pub decreases-loop-next : goal.decreases-loop-next
decreases-loop-next l = number l.next
