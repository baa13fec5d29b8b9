-- `pick` gives the place of the key that is ahead of all. The invariant: the best so far is ahead of the keys so far.
use mathlib.Core.Path.{ap}
use native.Mathlib.Omega.{arith}
use lib.ListN.{length}
use Rattle.records.specs.SheetIn.{sheet_in}
use Rattle.tips.specs.Tips.{tips_in}
use Rattle.plain_turns.proofs.Keys.{pick_next}
use Rattle.plain_turns.proofs.pick.Goals as goal

pub loop-i-preserved : goal.loop-i-preserved
loop-i-preserved c =
    let a = c.args in
    pick_next (sheet_in a.records.now) (tips_in a.tips.now) c.loop-i.i (omega (arith, c.loop-i-test.true, ap length c.tracks-i-end.ensures)) c.key_at.ensures c.loop-i.invariant c.first_of-best.ensures
