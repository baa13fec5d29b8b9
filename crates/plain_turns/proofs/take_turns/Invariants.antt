-- `take_turns` writes the roll. The invariant: the rows so far are written, and the tips are in the state of as many rows.
use mathlib.Core.Path.{◌≡◌}
use lib.ListN.{length, take}
use Rattle.rule.specs.Selection.{roll_of}
use Rattle.row.specs.Written.{Written}
use Rattle.plain_turns.specs.State.{State}
use Rattle.records.specs.SheetIn.{sheet_in}
use Rattle.tips.specs.Tips.{tips_in}
use Rattle.plain_turns.proofs.take_turns.Given as goal

abbrev pub invariant-loop-k : goal.invariant-loop-k
invariant-loop-k l = State (sheet_in l.fn.records) l.k (tips_in l.tips) × Written (take l.k (roll_of (sheet_in l.fn.records))) l.fn.out l.out × (length l.out ≡ length l.fn.out)
