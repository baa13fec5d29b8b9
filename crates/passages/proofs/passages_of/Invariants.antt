-- Track by track.
use Rattle.passages.proofs.Ways.{Ways}
use Rattle.passages.proofs.passages_of.Given as goal

abbrev pub invariant-loop-j : goal.invariant-loop-j
invariant-loop-j l = Ways l.rows l.tracks l.n l.passages l.j
