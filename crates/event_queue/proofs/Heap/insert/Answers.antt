-- `insert` meets its contract.
use mathlib.Core.Path.{refl}
use Rattle.event_queue.proofs.Operations.{insert_room, inserting, insert_lifts, inserted, lifts_at, sifted_from}
use Rattle.event_queue.proofs.Heap.insert.Goals as goal

pub stand-requires : goal.stand-requires
stand-requires c = (insert_room c.args.self.now c.requires.0 c.args.tip c.args.entry c.requires.2 c.requires.1, c.requires.1.tip_within)

pub sift_up-requires : goal.sift_up-requires
sift_up-requires c =
    lifts_at (inserting c.args.self.now c.requires.0 c.args.tip c.args.entry c.requires.2 c.requires.1 refl c.stand.ensures refl) refl
    (insert_lifts c.args.self.now c.requires.0 c.args.tip c.args.entry c.requires.2 c.requires.1)

pub returns : goal.returns
returns c =
    inserted c.args.self.now c.requires.0 c.args.tip c.args.entry c.requires.2 c.requires.1 _
    (sifted_from _
    (inserting c.args.self.now c.requires.0 c.args.tip c.args.entry c.requires.2 c.requires.1 refl c.stand.ensures refl)
    c.sift_up.ensures)
