-- `join` puts a tip at the front of its cell's list.
use Rattle.cell_members.proofs.Added.{joined}
use Rattle.cell_members.proofs.Members.join.Goals as goal

pub returns : goal.returns
returns c = joined _ _ _ c.args.self.now.linked c.requires.0 c.requires.1 c.requires.2
