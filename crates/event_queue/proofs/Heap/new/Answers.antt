-- `new` makes a heap of no tips.
use mathlib.Core.Path.{refl}
use Rattle.event_queue.proofs.Operations.{cleared}
use Rattle.event_queue.proofs.Heap.new.Goals as goal

pub returns : goal.returns
returns c = cleared _ refl refl refl refl
