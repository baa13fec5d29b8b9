-- The invariant: of the walls so far.
use mathlib.Core.Path.{◌≡◌, sym, ap, subst}
use mathlib.Core.List.{List}
use Prim.Native.Nat.{◌+◌, ◌<◌}
use native.Mathlib.Omega.{arith}
use lib.ListN.{length, get_or}
use Rattle.sheet.specs.HandedIn.{no_wall}
use Rattle.sheet.specs.declared.Wall.{Wall}
use Rattle.cause.specs.Cause.{wall_at}
use Rattle.records.specs.SheetIn.{sheet_in}
use Rattle.look.proofs.Walls.{WallsUpTo, wall_ok, wall-turn, wall_far, walls_end}
use Rattle.look.proofs.look_walls.Goals as goal
use Rattle.look.proofs.look_walls.Goals.{then-reaches+then-reaches-2, else-reaches, else-reaches-via-then-reaches+else-reaches-2, else-reaches-via-else-reaches}

pub with_wall-first-requires : goal.with_wall-first-requires
with_wall-first-requires c =
    let S = sheet_in c.args.records.now in
    let acc = c.args.records.now.handed.accepted in
    let e = c.walls-w-items.ensures in
    (c.loop-k.invariant.stands.fine, acc.tracks_ok c.args.a c.requires.0, wall_ok S acc c.loop-k.k (omega (arith, c.loop-k-test.true, ap length e)) (ap (λ (l : List Wall). get_or l c.loop-k.k no_wall) e))

pub loop-k-preserved : goal.loop-k-preserved
loop-k-preserved c =
    let S = sheet_in c.args.records.now in
    let acc = c.args.records.now.handed.accepted in
    let k = c.loop-k.k in
    let e = c.walls-w-items.ensures in
    let in_walls : k < length S.walls = omega (arith, c.loop-k-test.true, ap length e) in
    let is : get_or c.walls-w-items.result.now k no_wall ≡ wall_at S k = ap (λ (l : List Wall). get_or l k no_wall) e in
    let after = WallsUpTo S c.args.a c.args.p (k + 1) c.args.c in
    let before = c.loop-k.invariant in
    elim c.if-reaches.branch [
      | then-reaches+then-reaches-2 w ↦ subst after (sym w.first-is) (wall-turn S acc c.args.a c.args.p k in_walls is w.with_wall-first.ensures before)
      | else-reaches w ↦
          subst after (sym w.first-is)
          (wall_far S acc c.args.a c.args.p k in_walls is
          (elim w.else-reaches.branch [
            | else-reaches-via-then-reaches+else-reaches-2 v ↦ λ z. v.reaches-then-reaches.ensures.1 v.if-reaches-2.false z.along
            | else-reaches-via-else-reaches v ↦ λ z. c.reaches.ensures.1 v.if-reaches.false z.across
          ])
          before)
    ]

pub returns : goal.returns
returns c =
    let S = sheet_in c.args.records.now in
    walls_end S c.args.records.now.handed.accepted c.args.a c.args.p c.loop-k.k (omega (arith, c.loop-k-test.false, c.loop-k.auto.k-end, ap length c.walls-w-items.ensures)) c.loop-k.invariant
