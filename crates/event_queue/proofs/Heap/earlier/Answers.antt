-- `earlier` meets its contract.
use mathlib.Core.Path.{refl}
use Rattle.event_queue.proofs.KeyTable.{leads_answer}
use Rattle.event_queue.proofs.Heap.earlier.Goals as goal

pub returns : goal.returns
returns c = leads_answer c.args.self.now.entries c.args.a c.args.b _ _ _ refl refl c.leaves_before.ensures
