-- `put` inserts or replaces, as the tip's place says.
use mathlib.Core.Path.{refl}
use Rattle.event_queue.proofs.Operations.{room_of, stands_free, stands_held}
use Rattle.event_queue.proofs.Heap.put.Goals as goal

pub insert-requires : goal.insert-requires
insert-requires c =
    (c.requires.0, stands_free c.args.self.now (room_of c.args.self.now c.requires.0) c.args.tip c.requires.1 refl c.if-self-tip-eq-NOWHERE.true, c.requires.2)

pub replace-requires : goal.replace-requires
replace-requires c =
    (c.requires.0, stands_held c.args.self.now (room_of c.args.self.now c.requires.0) c.args.tip c.requires.1 refl c.if-self-tip-eq-NOWHERE.false, c.requires.2, c.requires.1)
