-- A refusal's line at the start of the buffer.
use Prim.Native.Nat.{◌≤◌}
use native.Mathlib.Omega.{arith}
use lib.ListN.{length}
use Rattle.text.specs.Lines.{refused_of}
use Rattle.text.proofs.Lengths.{refusal_short}
use Rattle.page.proofs.Putting.{in_front}
use Rattle.page.proofs.put_refusal.Goals as goal

pub returns : goal.returns
returns c =
    let l = c.refusal-t.ensures in
    let short = refusal_short c.args.number c.args.place (omega arith) (omega arith) in
    let room : length (refused_of c.args.number c.args.place) ≤ length c.args.out.now = omega (arith, short, c.requires) in
    in_front l room c.end_of.ensures
