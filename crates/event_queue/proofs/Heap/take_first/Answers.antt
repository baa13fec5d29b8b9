-- `take_first` meets its contract.
use mathlib.Core.Path.{refl}
use Rattle.event_queue.proofs.Operations.{drops_at, sifted_from, taking, take_drops, taken}
use Rattle.event_queue.proofs.Heap.take_first.Goals as goal

pub sift_down-requires : goal.sift_down-requires
sift_down-requires c =
    drops_at (taking c.args.self.now c.requires.0 c.requires.1 _ _ refl refl c.stand.ensures refl refl) refl
    (take_drops c.args.self.now c.requires.0 c.requires.1)

pub returns : goal.returns
returns c =
    taken c.args.self.now c.requires.0 c.requires.1 _
    (sifted_from _ (taking c.args.self.now c.requires.0 c.requires.1 _ _ refl refl c.stand.ensures refl refl) c.sift_down.ensures)
