-- No step leaves 64 bits.
use Rattle.std.proofs.Common.{◌<◌}
use Rattle.vectors.proofs.layers.checksum.Given as goal

abbrev pub invariant-loop-b : goal.invariant-loop-b
invariant-loop-b l = l.sum < 36028797018963913
