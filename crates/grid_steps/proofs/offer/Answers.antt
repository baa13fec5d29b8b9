-- `offer` has the tip look at another.
use Rattle.records.specs.SheetIn.{sheet_in}
use mathlib.Core.Path.{refl}
use Rattle.grid_steps.proofs.Taken.{tip_ok}
use Rattle.grid_steps.proofs.offer.Goals as goal

pub on_trace-t-requires : goal.on_trace-t-requires
on_trace-t-requires c =
    let S = sheet_in c.args.records.now in
    let acc = c.args.records.now.handed.accepted in
    rw c.tracks-tracks.ensures (tip_ok S acc c.args.i c.requires.tip_within refl, tip_ok S acc c.args.j c.requires.other_in refl, c.requires.closed)
