-- `start_tip`: the tip at i has the edge for its cause, and enters the cell of its start.
use mathlib.Core.Path.{refl, ap}
use lib.ListN.{get_or}
use Rattle.sheet.specs.HandedIn.{no_track}
use Rattle.sheet.specs.declared.Track.{Track}
use mathlib.Core.List.{List}
use Rattle.records.specs.SheetIn.{sheet_in}
use Rattle.grid_steps.proofs.Taken.{tip_ok}
use Rattle.grid_enter.proofs.Start.{figure-pos, side-pos, starts, started}
use Rattle.grid_enter.proofs.start_tip.Goals as goal

pub nonzero_div-side : goal.nonzero_div-side
nonzero_div-side c = figure-pos c.requires.1.figure

pub edge_cause-c-requires : goal.edge_cause-c-requires
edge_cause-c-requires c =
    tip_ok (sheet_in c.args.records.now) c.args.records.now.handed.accepted c.args.i c.requires.0 (ap (λ (l : List Track). get_or l c.args.i no_track) c.tracks.ensures)

pub first_cell-k-requires : goal.first_cell-k-requires
first_cell-k-requires c = side-pos c.requires.1.figure

pub enter-requires : goal.enter-requires
enter-requires c =
    starts c.requires.1 c.requires.0 (ap (λ (l : List Track). get_or l c.args.i no_track) c.tracks.ensures) c.edge_cause-c.ensures refl refl c.first_cell-k.ensures

pub returns : goal.returns
returns c =
    started c.requires.1 c.requires.0 (ap (λ (l : List Track). get_or l c.args.i no_track) c.tracks.ensures) c.edge_cause-c.ensures refl refl c.first_cell-k.ensures c.enter.ensures
