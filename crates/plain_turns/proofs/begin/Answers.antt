-- `begin` finds the first causes. The invariant: the tips so far have theirs.
use mathlib.Core.List.{List}
use mathlib.Core.Path.{refl, sym, ap, subst}
use Prim.Native.Nat.{◌<◌}
use native.Mathlib.Omega.{arith}
use lib.ListN.{length, get_or}
use Rattle.sheet.specs.HandedIn.{no_track}
use Rattle.sheet.specs.Listing.{◌∈◌}
use Rattle.sheet.specs.declared.Track.{Track}
use Rattle.sheet.proofs.Lists.{mem_at}
use Rattle.records.specs.SheetIn.{sheet_in}
use Rattle.plain_turns.specs.State.{Based}
use Rattle.plain_turns.proofs.Beginning.{begin_next}
use Rattle.plain_turns.proofs.begin.Goals as goal

pub base_cause-requires : goal.base_cause-requires
base_cause-requires c =
    let S = sheet_in c.args.records.now in
    let i = c.loop-i.i in
    let e = c.tracks-a-items.ensures in
    subst (λ (l : List Track). get_or l i no_track ∈ S.tracks) (sym e) (mem_at no_track S.tracks i (omega (arith, c.loop-i-test.true, ap length e)))

pub loop-i-preserved : goal.loop-i-preserved
loop-i-preserved c =
    let S = sheet_in c.args.records.now in
    let i = c.loop-i.i in
    let e = c.tracks-a-items.ensures in
    let in_tracks : i < length S.tracks = omega (arith, c.loop-i-test.true, ap length e) in
    let based = subst (λ (l : List Track). Based S (get_or l i no_track) c.base_cause.result) e c.base_cause.ensures in
    begin_next c.args.records.now.handed.accepted c.requires.0 c.loop-i.invariant in_tracks based refl c.look_again.ensures
