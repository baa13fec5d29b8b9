-- `look_here` meets its contract: without walls nothing changes.
use borrow.Author.Rules.{rules}
use mathlib.Core.Path.{sym, ap, ◌∙◌}
use Rattle.records.specs.SheetIn.{sheet_in}
use Rattle.tips.specs.Tips.{tips_in}
use lib.ListN.{length}
use Rattle.grid_steps.proofs.Taken.{is_bare}
use Rattle.grid_steps.proofs.look_here.Goals as goal

pub returns-then-is_empty : goal.returns-then-is_empty
returns-then-is_empty c =
    is_bare (sheet_in c.args.records.now) c.args.records.now.handed.accepted c.args.side c.args.k c.args.i (tips_in c.args.tips.now) c.requires.1
    (sym (ap length c.walls.ensures) ∙ search rules)
