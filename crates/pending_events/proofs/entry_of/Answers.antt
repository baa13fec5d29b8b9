-- `entry_of` meets its contract: by the next entry where that comes first, else by the cause.
use native.Mathlib.Omega.{arith}
use Rattle.pending_events.proofs.Events.{next_in, entry-entered, entry_reached}
use Rattle.pending_events.proofs.entry_of.Goals as goal

pub overflow_cast-event : goal.overflow_cast-event
overflow_cast-event c =
    let h = next_in c.args.a c.args.s c.args.k c.next_entry-next.ensures (omega (arith, c.requires.2)) (omega (arith, c.requires.3)) in
    record { fits = omega (arith, h.0) }

pub overflow_cast-event-then-prior : goal.overflow_cast-event-then-prior
overflow_cast-event-then-prior c =
    let h = next_in c.args.a c.args.s c.args.k c.next_entry-next.ensures (omega (arith, c.requires.2)) (omega (arith, c.requires.3)) in
    record { fits = omega (arith, h.1) }

pub returns-then-prior : goal.returns-then-prior
returns-then-prior c =
    entry-entered c.args.a c.args.s c.args.k c.args.c c.requires.4 c.next_entry-next.ensures c.prior.ensures c.if-prior.true c.late-late.ensures

pub returns : goal.returns
returns c =
    entry_reached c.args.a c.args.s c.args.k c.args.c c.requires.4 c.next_entry-next.ensures c.prior.ensures c.if-prior.false c.reached-event.ensures
