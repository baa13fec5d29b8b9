-- `entry`: 0 is none.
use borrow.Author.Rules.{rules}
use Rattle.cell_members.proofs.Chains.{entry_none, entry_some}
use Rattle.cell_members.proofs.entry.Goals as goal

pub returns-in-0 : goal.returns-in-0
returns-in-0 c = entry_none _ c.in-0.is

pub returns-in_default : goal.returns-in_default
returns-in_default c = entry_some _ (search rules)
