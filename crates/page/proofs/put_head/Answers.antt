-- The first line at the start of the buffer.
use Prim.Native.Nat.{◌≤◌}
use native.Mathlib.Omega.{arith}
use lib.ListN.{length}
use Rattle.text.specs.Lines.{head_of}
use Rattle.text.proofs.Lengths.{head_short}
use Rattle.page.proofs.Putting.{text_long, in_front}
use Rattle.page.proofs.put_head.Goals as goal

pub returns : goal.returns
returns c =
    let l = c.head-t.ensures in
    let short = head_short c.args.tracks c.args.cells (omega arith) (omega arith) in
    let room : length (head_of c.args.tracks c.args.cells) ≤ length c.args.out.now = omega (arith, short, c.requires) in
    (in_front l room c.end_of.ensures, omega (arith, c.end_of.ensures, text_long l room, short))
