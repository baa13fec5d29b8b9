-- `take_turns` writes the roll. The invariant: the rows so far are written, and the tips are in the state of as many rows.
use mathlib.Core.Path.{◌≡◌, refl, ap, ◌∙◌}
use Prim.Native.Nat.{◌*◌}
use native.Mathlib.Omega.{arith}
use lib.ListN.{length}
use lib.Seq.{length-sets}
use Rattle.rule.specs.RowBytes.{row_bytes, row_width}
use Rattle.row.proofs.Roll.{written_none}
use Rattle.records.specs.SheetIn.{sheet_in}
use Rattle.ending.specs.Ended.{next_row}
use Rattle.ending.proofs.Rolling.{written_next, written_end}
use Rattle.plain_turns.proofs.take_turns.Goals as goal

pub loop-k-init : goal.loop-k-init
loop-k-init c = (c.requires.1, written_none c.args.out.now, refl)

pub loop-k-preserved : goal.loop-k-preserved
loop-k-preserved c =
    let S = sheet_in c.args.records.now in
    let k = c.loop-k.k in
    let (state, written, long) = c.loop-k.invariant in
    let (next, put) = c.take_turn.ensures in (
      next,
      written_next S k state.out next.out (omega (arith, c.requires.2, long, c.loop-k-test.true, ap length c.tracks-k-end.ensures)) put written,
      ap length put ∙ length-sets c.loop-k.out (row_width * k) (row_bytes (next_row S k)) ∙ long,
    )

pub returns : goal.returns
returns c =
    let S = sheet_in c.args.records.now in
    let (state, written, long) = c.loop-k.invariant in
    let all : c.loop-k.k ≡ length S.tracks = omega (arith, c.loop-k.auto.k-end, c.loop-k-test.false, ap length c.tracks-k-end.ensures) in
    written_end S c.loop-k.k c.args.records.now.handed.accepted state.progress state.out all written
