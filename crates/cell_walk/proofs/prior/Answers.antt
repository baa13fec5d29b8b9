-- `prior` meets its contract.
use Rattle.cell_walk.proofs.Onsets.{prior_by}
use Rattle.cell_walk.proofs.prior.Goals as goal

pub returns : goal.returns
returns c = prior_by c.args.k c.args.l c.product.ensures.0 c.product-2.ensures.0
