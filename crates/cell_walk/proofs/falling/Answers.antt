-- `falling` meets its contract.
use Rattle.cell_walk.proofs.Onsets.{fall_yes, fall_no}
use Rattle.cell_walk.proofs.falling.Goals as goal

pub returns-then-b-x : goal.returns-then-b-x
returns-then-b-x c = fall_yes c.args.x c.args.w c.args.b c.if-b-x.true c.requires.0 c.requires.1 c.requires.2

pub returns : goal.returns
returns c = fall_no c.args.x c.args.w c.args.b c.if-b-x.false
