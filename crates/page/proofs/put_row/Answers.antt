-- A line in the rest of the buffer.
use Prim.Native.Nat.{◌-◌, ◌≤◌}
use native.Mathlib.Omega.{arith}
use lib.ListN.{length}
use borrow.Rule.Slice.PartMut.{mid_of}
use Rattle.text.specs.Lines.{line_of}
use Rattle.text.proofs.Lengths.{line_short}
use Rattle.page.proofs.Putting.{text_long, in_part, mid_long, post_none}
use Rattle.page.proofs.put_row.Goals as goal

pub end_of-requires : goal.end_of-requires
end_of-requires c =
    let short = line_short c.args.row c.requires.0 in
    let m = mid_long c.args.at c.args.out.now (omega (arith, c.requires.1)) in
    omega (arith, text_long c.line-t.ensures (omega (arith, short, m, c.requires.1)), short, c.requires.1)

pub returns : goal.returns
returns c =
    let l = c.line-t.ensures in
    let short = line_short c.args.row c.requires.0 in
    let h : c.args.at ≤ length c.args.out.now = omega (arith, c.requires.1) in
    let m = mid_long c.args.at c.args.out.now h in
    let room : length (line_of c.args.row) ≤ length (mid_of c.args.at (length c.args.out.now - c.args.at) c.args.out.now) = omega (arith, short, m, c.requires.1) in
    (in_part _ l room c.end_of.ensures (post_none c.args.at c.args.out.now h), omega (arith, c.end_of.ensures, text_long l room, short))
