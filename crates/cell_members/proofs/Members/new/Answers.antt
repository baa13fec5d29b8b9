-- `new`: no tip has entered a cell.
use borrow.Author.Rules.{rules}
use mathlib.Core.Path.{refl}
use Rattle.cell_members.proofs.Chains.{members_none, linked_none}
use Rattle.cell_members.proofs.Members.new.Goals as goal

pub invariant_of-result : goal.invariant_of-result
invariant_of-result c = record { linked = linked_none _ (search rules) refl refl }

pub returns-clause-empty : goal.returns-clause-empty
returns-clause-empty c = members_none _ refl
