-- The records stored so far are those of the commands before `at`.
use borrow.Author.Rules.{rules}
use Rattle.sheet_reader.proofs.Loading.{loaded_none, loaded_inside, loaded_whole, loaded_all, load_room, load_more}
use Rattle.sheet_reader.proofs.load.Goals as goal

pub loop-at-init : goal.loop-at-init
loop-at-init c = loaded_none _ _ c.requires c.blank-sheet.ensures

pub bounds-s-at : goal.bounds-s-at
bounds-s-at c = loaded_inside c.loop-at.invariant

pub command_at-c-requires : goal.command_at-c-requires
command_at-c-requires c = loaded_whole c.loop-at.invariant c.loop-at-test.true

pub offset_bounds-sheet-n : goal.offset_bounds-sheet-n
offset_bounds-sheet-n c =
    let f = load_room c.loop-at.invariant c.command_at-c.ensures c.in-AddTrack.is in
    search rules

pub bounds-sheet-n : goal.bounds-sheet-n
bounds-sheet-n c =
    let f = load_room c.loop-at.invariant c.command_at-c.ensures c.in-AddTrack.is in
    search rules

pub overflow_add-sheet : goal.overflow_add-sheet
overflow_add-sheet c =
    let f = load_room c.loop-at.invariant c.command_at-c.ensures c.in-AddTrack.is in
    search rules

pub loop-at-preserved-in-AddTrack : goal.loop-at-preserved-in-AddTrack
loop-at-preserved-in-AddTrack c =
    rw (c.bytes_of-at.ensures, c.in-AddTrack.is)
    (load_more c.loop-at.invariant c.command_at-c.ensures c.in-AddTrack.is)

pub offset_bounds-sheet-n-in-AddWall : goal.offset_bounds-sheet-n-in-AddWall
offset_bounds-sheet-n-in-AddWall c =
    let f = load_room c.loop-at.invariant c.command_at-c.ensures c.in-AddWall.is in
    search rules

pub bounds-sheet-n-in-AddWall : goal.bounds-sheet-n-in-AddWall
bounds-sheet-n-in-AddWall c =
    let f = load_room c.loop-at.invariant c.command_at-c.ensures c.in-AddWall.is in
    search rules

pub overflow_add-sheet-in-AddWall : goal.overflow_add-sheet-in-AddWall
overflow_add-sheet-in-AddWall c =
    let f = load_room c.loop-at.invariant c.command_at-c.ensures c.in-AddWall.is in
    search rules

pub loop-at-preserved : goal.loop-at-preserved
loop-at-preserved c =
    rw (c.bytes_of-at.ensures, c.in-AddWall.is)
    (load_more c.loop-at.invariant c.command_at-c.ensures c.in-AddWall.is)

pub returns : goal.returns
returns c = loaded_all c.loop-at.invariant c.loop-at-test.false
