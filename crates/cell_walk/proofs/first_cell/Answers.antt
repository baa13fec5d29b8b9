-- `first_cell` meets its contract.
use Rattle.cells.specs.Walk.{first}
use borrow.Author.Rules.{rules}
use Rattle.cell_walk.proofs.first_cell.Goals as goal

pub returns : goal.returns
unfolding first
returns c = search rules
