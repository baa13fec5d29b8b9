-- The digits, at most 20, and the byte behind them.
use Rattle.text.proofs.Lines.{digits_room, mark_room, field-done}
use Rattle.text.proofs.Draft.put_field.Goals as goal

pub put_number-requires : goal.put_number-requires
put_number-requires c = digits_room c.args.v c.args.mark c.requires c.ranges.v.fits

pub push-requires : goal.push-requires
push-requires c =
    mark_room c.args.v c.args.mark c.requires c.ranges.v.fits c.put_number.ensures

pub returns : goal.returns
returns c =
    field-done c.args.v c.args.mark c.requires c.ranges.v.fits c.put_number.ensures c.push.ensures
