-- `refresh` leaves every running tip a cause that counts. The invariant: the tips so far have one.
use Rattle.plain_turns.specs.State.{Refreshed}
use Rattle.records.specs.SheetIn.{sheet_in}
use Rattle.tips.specs.Tips.{tips_in}
use Rattle.plain_turns.proofs.refresh.Given as goal

abbrev pub invariant-loop-i : goal.invariant-loop-i
invariant-loop-i l = Refreshed (sheet_in l.fn.records) (tips_in l.fn.tips) (tips_in l.tips) l.i
