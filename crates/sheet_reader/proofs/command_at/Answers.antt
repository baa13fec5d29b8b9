-- The command byte tells which of the three stands where one is known to.
use borrow.Author.Rules.{rules}
use native.Mathlib.Omega.{arith}
use mathlib.Core.Path.{sym, ap, ◌∙◌}
use mathlib.Core.Bool.{true, false}
use Rattle.sheet.specs.declared.Command.TheVariants.{AddTrack, AddWall}
use Rattle.sheet.specs.declared.Item.TheVariants.{Add}
use Rattle.sheet.specs.declared.Track.{Track}
use Rattle.sheet.specs.declared.Wall.{Wall}
use Rattle.sheet.specs.Format.{track_at, late_at}
use Rattle.sheet_reader.proofs.Items.{is_track, is_wall, is_late, known_track, known_wall, known_late, known_inside}
use Rattle.sheet_reader.proofs.command_at.Goals as goal

pub bounds-s-at : goal.bounds-s-at
bounds-s-at c = known_inside _ _ c.requires

pub track_at-t-requires : goal.track_at-t-requires
track_at-t-requires c = known_track _ _ c.requires c.if-b-eq1.true

pub returns-then-b-eq1 : goal.returns-then-b-eq1
unfolding track_at
returns-then-b-eq1 c =
    is_track _ _ c.if-b-eq1.true (known_track _ _ c.requires c.if-b-eq1.true)
    ∙ ap (λ (t : Track). Add (AddTrack t false)) (sym c.track_at-t.ensures)

pub wall_at-w-requires : goal.wall_at-w-requires
wall_at-w-requires c = known_wall _ _ c.requires c.if-b-eq2.true

pub returns-then-b-eq2 : goal.returns-then-b-eq2
returns-then-b-eq2 c =
    is_wall _ _ c.if-b-eq2.true (known_wall _ _ c.requires c.if-b-eq2.true)
    ∙ ap (λ (w : Wall). Add (AddWall w)) (sym c.wall_at-w.ensures)

pub overflow_add-at : goal.overflow_add-at
overflow_add-at c =
    let k = known_late _ _ c.requires c.if-b-eq1.false c.if-b-eq2.false in
    search rules

pub get16-start-requires : goal.get16-start-requires
get16-start-requires c =
    let k = known_late _ _ c.requires c.if-b-eq1.false c.if-b-eq2.false in
    omega arith

pub track_at-t-requires-2 : goal.track_at-t-requires-2
track_at-t-requires-2 c =
    let k = known_late _ _ c.requires c.if-b-eq1.false c.if-b-eq2.false in
    omega arith

pub returns : goal.returns
unfolding late_at
returns c =
    let k = known_late _ _ c.requires c.if-b-eq1.false c.if-b-eq2.false in
    is_late _ _ k.0 k.1
    ∙ ap (λ (t : Track). Add (AddTrack t true)) (sym (rw c.get16-start.ensures at c.track_at-t-2.ensures))
