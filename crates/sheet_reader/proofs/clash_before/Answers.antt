-- The least clash so far, lessened by those still to come, is the least of all.
use borrow.Author.Rules.{rules}
use Rattle.sheet_reader.proofs.Items.{whole-fits}
use Rattle.sheet_reader.proofs.Walking.{clashed_none, clashed_whole, clashed_more, clashed_all}
use Rattle.sheet_reader.proofs.clash_before.Goals as goal

pub loop-p-init : goal.loop-p-init
loop-p-init c = clashed_none _ _ _

pub command_at-d-requires : goal.command_at-d-requires
command_at-d-requires c = clashed_whole c.loop-p.invariant c.requires.0 c.requires.1 c.loop-p-test.true

pub overflow_add-p : goal.overflow_add-p
overflow_add-p c =
    let f = whole-fits _ _ _ c.command_at-d.ensures in
    let w = c.bytes_of-p.ensures in
    search rules

pub loop-p-preserved : goal.loop-p-preserved
loop-p-preserved c =
    let h = c.loop-p.invariant in
    let m = clashed_more h _ c.loop-p-test.true c.command_at-d.ensures in
    rw (c.bytes_of-p.ensures, c.lesser-worst.ensures, c.clash.ensures) m

pub returns : goal.returns
returns c = clashed_all c.loop-p.invariant c.loop-p-test.false
