-- Of the walls so far.
use Rattle.records.specs.SheetIn.{sheet_in}
use Rattle.look.proofs.Walls.{WallsUpTo}
use Rattle.look.proofs.look_walls.Given as goal

abbrev pub invariant-loop-k : goal.invariant-loop-k
invariant-loop-k l = WallsUpTo (sheet_in l.fn.records) l.fn.a l.fn.p l.k l.fn.c l.first
