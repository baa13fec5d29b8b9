-- `begin` finds the first causes. The invariant: the tips so far have theirs.
use Rattle.plain_turns.specs.State.{Begun}
use Rattle.records.specs.SheetIn.{sheet_in}
use Rattle.tips.specs.Tips.{tips_in}
use Rattle.plain_turns.proofs.begin.Given as goal

abbrev pub invariant-loop-i : goal.invariant-loop-i
invariant-loop-i l = Begun (sheet_in l.fn.records) (tips_in l.tips) l.i
