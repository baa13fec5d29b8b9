-- `pair`: the tips at i and j have marks beside each other, and have looked.
use Rattle.grid_meet.proofs.Looks.{pair_in, pair_look, pair_notice}
use Rattle.grid_meet.proofs.pair.Goals as goal

pub is_marked-requires : goal.is_marked-requires
is_marked-requires c = pair_in c.requires

pub offer-requires : goal.offer-requires
offer-requires c = pair_look c.requires

pub notice-requires : goal.notice-requires
notice-requires c = pair_notice c.requires c.if-j-i.false c.offer.ensures

pub mark_pair-requires : goal.mark_pair-requires
mark_pair-requires c = pair_in c.requires
