-- The least clash so far, lessened by those still to come, is the least of all.
use Prim.Native.Nat.{◌-◌}
use Rattle.sheet_rules.specs.Judged.{line_of}
use Rattle.sheet_reader.proofs.Walking.{Clashed}
use Rattle.sheet_reader.proofs.clash_before.Given as goal

abbrev pub invariant-loop-p : goal.invariant-loop-p
invariant-loop-p l = Clashed l.s l.at l.c (line_of l.worst) l.p

abbrev pub decreases-loop-p : goal.decreases-loop-p
decreases-loop-p l = l.at - l.p
