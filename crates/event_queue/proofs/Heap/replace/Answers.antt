-- `replace` meets its contract.
use mathlib.Core.Path.{refl, subst}
use Rattle.event_queue.proofs.Operations.{lower_lifts, raise_drops, old_key, old_ok, replaced}
use Rattle.event_queue.specs.Key.{NotAfter}
use Rattle.event_queue.specs.declared.Key.{Key}
use Rattle.event_queue.proofs.KeyOrder.{before_not_after}
use Rattle.event_queue.proofs.Heap.replace.Goals as goal

pub leaves_before-requires : goal.leaves_before-requires
leaves_before-requires c = (c.requires.2, old_ok c.args.self.now c.requires.0 c.args.tip c.args.entry c.requires.2 c.requires.1 refl)

pub sift_up-requires : goal.sift_up-requires
sift_up-requires c =
    let o = old_key c.args.self.now c.requires.0 c.args.tip c.args.entry c.requires.2 c.requires.1 refl in
    lower_lifts c.args.self.now c.requires.0 c.args.tip c.args.entry c.requires.2 c.requires.1 (subst (λ (z : Key). NotAfter c.args.entry.key z) o (before_not_after (c.leaves_before.ensures.0 c.if-leaves_before.true)))

pub sift_down-requires : goal.sift_down-requires
sift_down-requires c =
    let o = old_key c.args.self.now c.requires.0 c.args.tip c.args.entry c.requires.2 c.requires.1 refl in
    raise_drops c.args.self.now c.requires.0 c.args.tip c.args.entry c.requires.2 c.requires.1 (subst (λ (z : Key). NotAfter z c.args.entry.key) o (c.leaves_before.ensures.1 c.if-leaves_before.false))

pub returns-then-leaves_before : goal.returns-then-leaves_before
returns-then-leaves_before c =
    replaced c.args.self.now c.requires.0 c.args.tip c.args.entry c.requires.2 c.requires.1 _ c.sift_up.ensures

pub returns-else-leaves_before : goal.returns-else-leaves_before
returns-else-leaves_before c =
    replaced c.args.self.now c.requires.0 c.args.tip c.args.entry c.requires.2 c.requires.1 _ c.sift_down.ensures
