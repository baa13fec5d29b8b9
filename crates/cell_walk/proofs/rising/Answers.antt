-- `rising` meets its contract.
use Rattle.cell_walk.proofs.Onsets.{rise_yes, rise_no}
use Rattle.cell_walk.proofs.rising.Goals as goal

pub returns-then-b-x : goal.returns-then-b-x
returns-then-b-x c = rise_yes c.args.x c.args.w c.args.b c.if-b-x.true

pub returns : goal.returns
returns c = rise_no c.args.x c.args.w c.args.b c.if-b-x.false c.requires.2 c.requires.1
