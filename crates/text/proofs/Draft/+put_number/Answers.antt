-- The digits above the last by a call for v / 10, which is less than v, and the last behind them.
use native.Mathlib.Omega.{arith}
use Rattle.text.proofs.Lines.{one_room, one-done, more_room, last_room, more-done}
use Rattle.text.proofs.Draft.+put_number.Goals as goal

pub push-requires : goal.push-requires
push-requires t c = one_room c.args.v c.requires c.if-v-lt10.true

pub returns-then-v-lt10 : goal.returns-then-v-lt10
returns-then-v-lt10 t c = one-done c.args.v c.requires c.if-v-lt10.true c.push.ensures

pub put_number-requires : goal.put_number-requires
put_number-requires t c = (omega arith, more_room c.args.v c.requires c.if-v-lt10.false)

pub push-requires-2 : goal.push-requires-2
push-requires-2 t c = last_room c.args.v c.requires c.if-v-lt10.false c.put_number.ensures

pub returns : goal.returns
returns t c = more-done c.args.v c.requires c.if-v-lt10.false c.put_number.ensures c.push-2.ensures
