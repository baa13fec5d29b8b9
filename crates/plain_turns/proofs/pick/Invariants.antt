-- `pick` gives the place of the key that is ahead of all. The invariant: the best so far is ahead of the keys so far.
use Rattle.plain_turns.proofs.Keys.{Best}
use Rattle.records.specs.SheetIn.{sheet_in}
use Rattle.tips.specs.Tips.{tips_in}
use Rattle.plain_turns.proofs.pick.Given as goal

abbrev pub invariant-loop-i : goal.invariant-loop-i
invariant-loop-i l = Best (sheet_in l.fn.records) (tips_in l.fn.tips) l.i l.best
