-- `cell_exit` meets its contract.
use Rattle.cell_walk.specs.Onsets.{Early}
use Rattle.cell_walk.proofs.Onsets.{sooner-has, exit_by}
use Rattle.cell_walk.proofs.cell_exit.Goals as goal

pub opened-requires : goal.opened-requires
opened-requires c =
    (let p = c.column_exit.ensures in sooner-has Early p.early c.column_exit-2.ensures.early c.sooner-left.ensures, c.requires.0.start_in)

pub returns : goal.returns
returns c =
    exit_by c.args.a c.args.s c.args.k c.requires.0 c.column_exit.ensures c.column_exit-2.ensures c.sooner-left.ensures c.opened.ensures
