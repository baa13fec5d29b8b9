-- `cell_entry` meets its contract.
use Rattle.cell_walk.specs.Onsets.{Early}
use Rattle.cell_walk.proofs.Onsets.{later-has, entry_by}
use borrow.Author.Rules.{rules}
use Rattle.cell_walk.proofs.cell_entry.Goals as goal

pub opened-requires : goal.opened-requires
opened-requires c =
    (let p = c.column_entry.ensures in later-has Early p.early c.column_entry-2.ensures.early c.later-reached.ensures, search rules)

pub returns : goal.returns
returns c =
    entry_by c.args.a c.args.s c.args.k c.requires.0 c.column_entry.ensures c.column_entry-2.ensures c.later-reached.ensures c.opened.ensures
