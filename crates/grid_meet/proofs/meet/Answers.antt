-- `meet`: along the list of the cell, a pair at each entry.
use mathlib.Core.Path.{ap, ◌∙◌}
use native.Mathlib.Omega.{arith}
use Rattle.cell_members.specs.Members.{newest_at, tip_at, older_at, as_entry}
use Rattle.grid_meet.proofs.Walk.{entry_number, no_number, as_number, walk_start, walk_in, walk-less, walk_may, walk_step, walk_end}
use Rattle.grid_meet.proofs.meet.Goals as goal

pub loop-next-init : goal.loop-next-init
loop-next-init c = (newest_at c.args.members.now.lists c.args.cell, c.newest-next.ensures, walk_start c.args.members.now.linked c.requires.0 c.requires.1)

pub tip_of-j-requires : goal.tip_of-j-requires
tip_of-j-requires c =
    let v = c.loop-next.invariant in
    let e = entry_number v.0 c.in-Some.is v.1 in
    (omega (arith, e.0, e.1), omega (arith, e.0, walk_in c.args.members.now.linked v.2 e.1))

pub pair-requires : goal.pair-requires
pair-requires c =
    let v = c.loop-next.invariant in
    let e = entry_number v.0 c.in-Some.is v.1 in
    walk_may c.args.members.now.linked v.2 e.1 (c.tip_of-j.ensures ∙ ap (tip_at c.args.members.now.lists) e.0)

pub older-next-requires : goal.older-next-requires
older-next-requires c =
    let v = c.loop-next.invariant in
    let e = entry_number v.0 c.in-Some.is v.1 in
    (omega (arith, e.0, e.1), omega (arith, e.0, walk_in c.args.members.now.linked v.2 e.1))

pub loop-next-smaller : goal.loop-next-smaller
loop-next-smaller c =
    let v = c.loop-next.invariant in
    let e = entry_number v.0 c.in-Some.is v.1 in
    omega (arith, e.0, as_number _ c.older-next.ensures, as_number _ v.1, ap (older_at c.args.members.now.lists) e.0, walk-less c.args.members.now.linked v.2 e.1)

pub loop-next-preserved : goal.loop-next-preserved
loop-next-preserved c =
    let v = c.loop-next.invariant in
    let e = entry_number v.0 c.in-Some.is v.1 in
    let l = c.args.members.now in (
      older_at l.lists v.0,
      c.older-next.ensures ∙ ap (λ n. as_entry (older_at l.lists n)) e.0,
      walk_step l.linked v.2 e.1 (c.tip_of-j.ensures ∙ ap (tip_at l.lists) e.0) c.pair.ensures,
    )

pub returns : goal.returns
returns c =
    let v = c.loop-next.invariant in
    walk_end c.args.members.now.linked v.2 (no_number v.0 c.in_default.is v.1)
