-- Entered before it is left and before the trace's end, or never.
use Rattle.cell_walk.specs.Onsets.{Ready}
use Rattle.cell_walk.proofs.Onsets.{past_ready, sooner-has, arrives, passes}
use Rattle.cell_walk.proofs.arrives.Goals as goal

pub prior-requires : goal.prior-requires
prior-requires c = (c.cell_entry-entry.ensures.ready, sooner-has Ready c.cell_exit-exit.ensures.ready (past_ready c.requires.1) c.sooner.ensures)

pub returns-then-prior : goal.returns-then-prior
returns-then-prior c =
    let a = c.args in
    arrives a.a a.s a.k a.end c.requires.1 c.cell_entry-entry.ensures c.cell_exit-exit.ensures c.sooner.ensures c.prior.ensures c.if-prior.true

pub returns-else-prior : goal.returns-else-prior
returns-else-prior c =
    let a = c.args in
    passes a.a a.s a.k a.end c.requires.1 c.cell_entry-entry.ensures c.cell_exit-exit.ensures c.sooner.ensures c.prior.ensures c.if-prior.false
