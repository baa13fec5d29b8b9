-- `take_turn` writes the next row, and leaves the state of one row more.
use mathlib.Core.Path.{refl}
use Rattle.plain_turns.proofs.Turning.{turn-named, turn_end, turn-row, turn_state}
use Rattle.plain_turns.proofs.take_turn.Goals as goal

pub ending_of-ending-requires : goal.ending_of-ending-requires
ending_of-ending-requires c = let p = c.requires in turn-named c.args.records.now.handed.accepted p.1 c.refresh.ensures p.2 c.pick-i.ensures refl

pub end_tip-requires : goal.end_tip-requires
end_tip-requires c = let p = c.requires in (turn_end c.args.records.now.handed.accepted p.1 c.refresh.ensures p.2 c.pick-i.ensures, p.3)

pub returns : goal.returns
returns c =
    let p = c.requires in
    let acc = c.args.records.now.handed.accepted in
    let f = c.refresh.ensures in
    let q = c.pick-i.ensures in
    let x = c.ending_of-ending.ensures in
    let y = c.end_tip.ensures.1 in
    (turn_state acc p.1 f p.2 q x y, turn-row acc p.1 f p.2 q x y)
