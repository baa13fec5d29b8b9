-- `refresh` leaves every running tip a cause that counts. The invariant: the tips so far have one.
use mathlib.Core.Path.{sym, ap, subst}
use Prim.Native.Nat.{◌+◌, ◌<◌}
use native.Mathlib.Omega.{arith}
use lib.ListN.{length}
use Rattle.records.specs.SheetIn.{sheet_in}
use Rattle.tips.specs.declared.Tips.{Tips}
use Rattle.tips.specs.Tips.{tips_in}
use Rattle.plain_turns.specs.State.{Refreshed}
use Rattle.plain_turns.proofs.LookingAgain.{refresh_none, refresh_look}
use Rattle.plain_turns.proofs.refresh.Goals as goal
use Rattle.plain_turns.proofs.refresh.Goals.{then-stale, else-stale}

pub loop-i-preserved : goal.loop-i-preserved
loop-i-preserved c =
    let S = sheet_in c.args.records.now in
    let acc = c.args.records.now.handed.accepted in
    let in_tracks : c.loop-i.i < length S.tracks = omega (arith, c.loop-i-test.true, ap length c.tracks-i-end.ensures) in
    let after = λ (t : Tips). Refreshed S (tips_in c.args.tips.now) (tips_in t) (c.loop-i.i + 1) in
    elim c.if-stale.branch [
      | then-stale w ↦ subst after (sym w.tips-is) (refresh_look acc c.requires.0 c.loop-i.invariant in_tracks c.stale.ensures w.if-stale.true w.look_again.ensures)
      | else-stale w ↦ subst after (sym w.tips-is) (refresh_none acc c.requires.0 c.loop-i.invariant in_tracks c.stale.ensures w.if-stale.false)
    ]
