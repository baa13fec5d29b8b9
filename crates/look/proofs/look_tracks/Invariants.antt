-- Of the tracks so far.
use Rattle.records.specs.SheetIn.{sheet_in}
use Rattle.tips.specs.Tips.{tips_in}
use Rattle.look.proofs.Tracks.{TracksUpTo}
use Rattle.look.proofs.look_tracks.Given as goal

abbrev pub invariant-loop-k : goal.invariant-loop-k
invariant-loop-k l = TracksUpTo (sheet_in l.fn.records) l.fn.i (tips_in l.fn.tips) l.fn.known l.k l.fn.c l.first
