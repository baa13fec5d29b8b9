-- The line in the rest of the buffer.
use Prim.Native.Nat.{◌-◌, ◌≤◌}
use native.Mathlib.Omega.{arith}
use lib.ListN.{length}
use borrow.Rule.Slice.PartMut.{mid_of}
use Rattle.text.specs.Lines.{still_of}
use Rattle.text.proofs.Lengths.{still_short}
use Rattle.page.proofs.Putting.{text_long, in_part, mid_long, post_none}
use Rattle.page.proofs.put_running.Goals as goal

pub end_of-requires : goal.end_of-requires
end_of-requires c =
    let short = still_short c.args.tracks (omega arith) in
    let m = mid_long c.args.at c.args.out.now (omega (arith, c.requires)) in
    omega (arith, text_long c.still_running-t.ensures (omega (arith, short, m, c.requires)), short, c.requires)

pub returns : goal.returns
returns c =
    let l = c.still_running-t.ensures in
    let short = still_short c.args.tracks (omega arith) in
    let h : c.args.at ≤ length c.args.out.now = omega (arith, c.requires) in
    let m = mid_long c.args.at c.args.out.now h in
    let room : length (still_of c.args.tracks) ≤ length (mid_of c.args.at (length c.args.out.now - c.args.at) c.args.out.now) = omega (arith, short, m, c.requires) in
    in_part _ l room c.end_of.ensures (post_none c.args.at c.args.out.now h)
