-- `reduce` meets its contract.
use Rattle.fraction.proofs.LowestTerms.{divisor_pos, divided_reduced, reduced_is}
use Rattle.fraction.proofs.reduce.Goals as goal

pub nonzero_div-num : goal.nonzero_div-num
nonzero_div-num c = divisor_pos c.common-g.ensures c.requires

pub nonzero_div-den : goal.nonzero_div-den
nonzero_div-den c = divisor_pos c.common-g.ensures c.requires

pub returns : goal.returns
returns c =
    let p = c.requires in
    let h = divided_reduced c.common-g.ensures p in
    (reduced_is p h, h)
